-- What the words of a key say.
use Rattle.std.proofs.Common.{◌≡◌, ℕ, ◌<◌, ◌≤◌, false, ◌⊎◌, List, ◌∷◌, ◌++◌, length, Bor, Some, None, Ok, Err, Option, Result, MatchOption, MatchResult, ok_or, sym, refl, ap, ◌∙◌, subst, ⊎_elim, arith}
use Rattle.registers.specs.Keys.{OutOfSixteen}
use Rattle.registers.specs.declared.clash.ClashKey.{ClashKey}
use Rattle.rows.specs.declared.row.Row.{Row}
use Rattle.sheets.proofs.Parting.{parted, same_parts, has_none}
use Rattle.sheets.specs.Words.{upto, digits, CutInto}
use Rattle.std.proofs.lemmas.Bool.{true≢false}
use Rattle.trace.specs.Keys.{RowText, FormNumber, ClashText, ClashWords, ClashRead, RowRefused, ClashRefused}
use Rattle.trace.specs.declared.written.NoKey.{NoKey}
use Rattle.trace.specs.declared.written.NoKey.TheVariants.{Row as OfRow, Clash as OfClash}

-- digits write one number
no_form : (t : List ℕ) (n : ℕ) → digits t ≡ false → FormNumber t n → ⊥
no_form t n none h = true≢false (sym h.0 ∙ none)

same_number : (t : List ℕ) (m n : ℕ) → FormNumber t m → FormNumber t n → m ≡ n
same_number t m n f g = f.1 ∙ sym g.1

-- the words of a text that was cut at its first space are those of the clash key that it names
words_first : {t x y : List ℕ} {p q : ℕ} {row : List ℕ} → CutInto 32 t x y → (h : ClashText t p q row) → FormNumber x p × (y ≡ h.1 ++ 32 ∷ row)
words_first {p = p} cut h =
    let same = same_parts (parted cut) (record { whole = h.4; lacks = h.2 }) in
    (subst (λ z. FormNumber z p) (sym same.0) h.5, same.1)

-- and again behind it
words_second : {t x y z r : List ℕ} {p q : ℕ} {row : List ℕ} → CutInto 32 t x y → CutInto 32 y z r → ClashText t p q row → FormNumber z q
words_second {q = q} cut next h =
    let same = same_parts (parted next) (record { whole = (words_first cut h).1; lacks = h.3 }) in
    subst (λ z. FormNumber z q) (sym same.0) h.6

pub words_none : {t : List ℕ} → upto 32 t ≡ length t → (p q : ℕ) (row : List ℕ) → ClashText t p q row → ⊥
words_none {t} none p q row h = has_none 32 h.0 (h.1 ++ 32 ∷ row) t h.4 none

pub words_half : {t x y : List ℕ} → CutInto 32 t x y → upto 32 y ≡ length y → (p q : ℕ) (row : List ℕ) → ClashText t p q row → ⊥
words_half {y = y} cut none p q row h = has_none 32 h.1 row y (words_first cut h).1 none

pub no_first : {t x y : List ℕ} → CutInto 32 t x y → digits x ≡ false → (p q : ℕ) (row : List ℕ) → ClashText t p q row → ⊥
no_first {x = x} cut none p q row h = no_form x p none (words_first cut h).0

pub no_second : {t x y z r : List ℕ} → CutInto 32 t x y → CutInto 32 y z r → digits z ≡ false → (p q : ℕ) (row : List ℕ) → ClashText t p q row → ⊥
no_second {z = z} cut next none p q row h = no_form z q none (words_second cut next h)

pub words_made : {t x y z r : List ℕ} {p q : ℕ} → CutInto 32 t x y → CutInto 32 y z r → FormNumber x p → FormNumber z q → ClashText t p q r
words_made {x = x} {z = z} cut next first second =
    let one = parted cut in
    let two = parted next in
    (x, z, one.lacks, two.lacks, one.whole ∙ ap (λ a. x ++ 32 ∷ a) two.whole, first, second)

-- the numbers of a text are the only ones
out_of_sixteen : {t row more : List ℕ} {p q s u : ℕ} → ClashText t p q row → ClashText t s u more → (16 ≤ p) ⊎ (16 ≤ q) → s < 16 → u < 16 → ⊥
out_of_sixteen {row = row} {p = p} {q = q} {s = s} {u = u} h k out a b =
    let one = same_parts (record { whole = h.4; lacks = h.2 }) (record { whole = k.4; lacks = k.2 }) in
    let two = same_parts (record { whole = refl; lacks = h.3 }) (record { whole = one.1; lacks = k.3 }) in
    let first : p ≡ s = same_number k.0 p s (subst (λ z. FormNumber z p) one.0 h.5) k.5 in
    let second : q ≡ u = same_number k.1 q u (subst (λ z. FormNumber z q) two.0 h.6) k.6 in
    ⊎_elim (λ x. omega (arith, first)) (λ x. omega (arith, second)) out

-- what is read where the words are there, and where they are not
pub words_there : (t : List ℕ) (o : Option (ℕ × ℕ × Bor (List ℕ))) (x : ℕ × ℕ × Bor (List ℕ)) → ClashWords t o → Ok x ≡ ok_or o OfClash → ClashText t x.0 x.1 x.2.now
words_there t None x h is = absurd cc
words_there t (Some y) x h is = let same : y ≡ x = cc in subst (λ z. ClashText t z.0 z.1 z.2.now) same h

pub no_words : (t : List ℕ) (o : Option (ℕ × ℕ × Bor (List ℕ))) (e : NoKey) → ClashWords t o → Err e ≡ ok_or o OfClash → ClashRefused t e
no_words t None e h is = let same : e ≡ OfClash = cc in subst (ClashRefused t) (sym same) (λ p q row k _ _. h p q row k)
no_words t (Some y) e h is = absurd cc

-- a refused row is why a clash key is refused
pub no_row : (t row : List ℕ) (p q : ℕ) (e : NoKey) → ClashText t p q row → RowRefused row e → ClashRefused t e
no_row t row p q (OfRow f) h k = (p, q, row, h, k)
no_row t row p q OfClash h k = absurd k

-- and numbers that are not below 16
pub key_made : (t text : List ℕ) (p q : ℕ) (row : Row) (o : Option ClashKey) (r : Result ClashKey NoKey) → ClashText t p q text → RowText text row.bells
    → MatchOption o (OutOfSixteen p q) (λ key. (key.first ≡ p) × (key.second ≡ q) × (key.row ≡ row)) → r ≡ ok_or o OfClash
    → MatchResult r (λ key. ClashRead t key.first key.second key.row.bells) (ClashRefused t)
key_made t text p q row None r h spells out is = subst (λ z. MatchResult z (λ key. ClashRead t key.first key.second key.row.bells) (ClashRefused t)) (sym is) (λ s u more k. out_of_sixteen h k out)
key_made t text p q row (Some key) r h spells made is =
    subst (λ z. MatchResult z (λ key. ClashRead t key.first key.second key.row.bells) (ClashRefused t)) (sym is)
    (text, subst (λ z. ClashText t z key.second text) (sym made.0) (subst (λ z. ClashText t p z text) (sym made.1) h), subst (λ z. RowText text z.bells) (sym made.2) spells)
