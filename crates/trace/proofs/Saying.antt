-- What the words of a line say.
use Rattle.std.proofs.Common.{◌≡◌, ℕ, ◌<◌, false, List, ◌∷◌, ◌++◌, length, get_or, Some, None, codes, Option, unwrap_or, sym, refl, ap, ◌∙◌, subst, arith, Bor}
use Rattle.sheets.proofs.Parting.{parted, same_parts, has_none, last_is}
use Rattle.sheets.specs.Words.{upto, digits, CutInto, Word, BlankLine}
use Rattle.std.proofs.lemmas.List.{take_all}
use Rattle.std.proofs.lemmas.Bool.{true≢false}
use Rattle.trace.specs.Script.{MarkOf, NoMark, NumberOf, LendArgs, EnterArgs, LendOf, EnterOf, SaysAlone, SaysWith, Says, Parsed, Alone, Known}
use Rattle.trace.specs.declared.command.Command.{Command}
use Rattle.trace.specs.declared.command.Command.TheVariants.{Lend, Rows, Clashes, Enter, Find, Count, Back, Unknown}

-- what is not all digits is no number
no_number : (t : List ℕ) (n : ℕ) → digits t ≡ false → NumberOf t n → ⊥
no_number t n none h = true≢false (sym h.0 ∙ none)

-- arguments that were cut at their first space
lend_parts : {t x y : List ℕ} {n c : ℕ} → CutInto 32 t x y → LendArgs t n c → NumberOf x n × NumberOf y c
lend_parts {n = n} {c = c} cut h =
    let same = same_parts (parted cut) (record { whole = h.3; lacks = h.2 }) in
    (subst (λ z. NumberOf z n) (sym same.0) h.4, subst (λ z. NumberOf z c) (sym same.1) h.5)

pub lend_none : (t : List ℕ) → upto 32 t ≡ length t → (n c : ℕ) → LendArgs t n c → ⊥
lend_none t none n c h = has_none 32 h.0 h.1 t h.3 none

pub lend_first : {t x y : List ℕ} → CutInto 32 t x y → digits x ≡ false → (n c : ℕ) → LendArgs t n c → ⊥
lend_first {x = x} cut none n c h = no_number x n none (lend_parts cut h).0

pub lend_second : {t x y : List ℕ} → CutInto 32 t x y → digits y ≡ false → (n c : ℕ) → LendArgs t n c → ⊥
lend_second {y = y} cut none n c h = no_number y c none (lend_parts cut h).1

-- and at their last
pub enter_none : (t : List ℕ) → upto 32 t ≡ length t → (key : List ℕ) (m : ℕ) → EnterArgs t key m → ⊥
enter_none t none key m h = has_none 32 key h.0 t h.2 none

pub enter_unmarked : (t x y : List ℕ) → t ≡ x ++ 32 ∷ y → Word y → NoMark y → (key : List ℕ) (m : ℕ) → EnterArgs t key m → ⊥
enter_unmarked t x y is w none key m h = none m (subst (λ z. MarkOf z m) (sym (last_is 32 x y key h.0 (sym is ∙ h.2) w h.1).1) h.3)

-- the three words that have arguments begin with different letters
other_word : (w v u : List ℕ) → (get_or v 0 0 ≡ get_or u 0 0 → ⊥) → w ≡ v → w ≡ u → ⊥
other_word w v u differ is e = differ (ap (λ x. get_or x 0 0) (sym is ∙ e))

lend_known : (w a : List ℕ) → w ≡ codes "lend" → ((n c : ℕ) → LendArgs a n c → ⊥) → (c : Command) → SaysWith w a c → ⊥
lend_known w a is h (Lend n c) s = h n c s.1
lend_known w a is h (Enter key m) s = other_word w (codes "lend") (codes "enter") (λ x. omega arith) is s.0
lend_known w a is h (Find key) s = other_word w (codes "lend") (codes "find") (λ x. omega arith) is s.0
lend_known w a is h _ s = s

enter_known : (w a : List ℕ) → w ≡ codes "enter" → ((key : List ℕ) (m : ℕ) → EnterArgs a key m → ⊥) → (c : Command) → SaysWith w a c → ⊥
enter_known w a is h (Lend n c) s = other_word w (codes "enter") (codes "lend") (λ x. omega arith) is s.0
enter_known w a is h (Enter key m) s = h key.now m s.1
enter_known w a is h (Find key) s = other_word w (codes "enter") (codes "find") (λ x. omega arith) is s.0
enter_known w a is h _ s = s

pub known_lend : (w a : List ℕ) (r : Option Command) → w ≡ codes "lend" → LendOf a r → Known w a r
known_lend w a None is h = lend_known w a is h
known_lend w a (Some c) is h = subst (SaysWith w a) (sym h.2) (is, h.3)

pub known_enter : (w a : List ℕ) (r : Option Command) → w ≡ codes "enter" → EnterOf a r → Known w a r
known_enter w a None is h = enter_known w a is h
known_enter w a (Some c) is h = subst (SaysWith w a) (sym h.2) (is, h.3)

-- a line of one word
says_alone : (t : List ℕ) (c : Command) → SaysAlone t c → Parsed t c
says_alone t Rows s = s
says_alone t Clashes s = s
says_alone t Count s = s
says_alone t Back s = s
says_alone t _ s = absurd s

one_word : (t : List ℕ) → upto 32 t ≡ length t → ((c : Command) → SaysAlone t c → ⊥) → (c : Command) → Says t c → ⊥
one_word t none h Rows s = h Rows s
one_word t none h Clashes s = h Clashes s
one_word t none h Count s = h Count s
one_word t none h Back s = h Back s
one_word t none h (Lend n c) s = has_none 32 (codes "lend") s.0 t s.1 none
one_word t none h (Enter key m) s = has_none 32 (codes "enter") s.0 t s.1 none
one_word t none h (Find key) s = has_none 32 (codes "find") key.now t s none
one_word t none h _ s = s

pub says_word : (t : List ℕ) (word : Bor (List ℕ)) (r : Option Command) (c : Command) → word.now ≡ t → upto 32 t ≡ length t → (BlankLine t → ⊥) → Alone t r → c ≡ unwrap_or r (Unknown word) → Parsed t c
says_word t word None c is none other h e = subst (Parsed t) (sym e) (is ∙ sym (take_all (upto 32 t) t (omega arith)), other, one_word t none h)
says_word t word (Some d) c is none other h e = subst (Parsed t) (sym e) (says_alone t d h)

-- a line with a space in it is no single word
spaced : (t v : List ℕ) → upto 32 t < length t → upto 32 v ≡ length v → t ≡ v → ⊥
spaced t v space w is = omega (arith, ap (upto 32) is, ap length is)

-- a line that was cut behind its first word
module _ (t : List ℕ) (x y : Bor (List ℕ)) (cut : CutInto 32 t x.now y.now) where
  spells : (w : List ℕ) → x.now ≡ w → t ≡ w ++ 32 ∷ y.now
  spells w is = (parted cut).whole ∙ ap (λ z. z ++ 32 ∷ y.now) is

  says_known : (c : Command) → SaysWith x.now y.now c → Parsed t c
  says_known (Lend n c) s = (y.now, spells (codes "lend") s.0, s.1)
  says_known (Enter key m) s = (y.now, spells (codes "enter") s.0, s.1)
  says_known (Find key) s = spells (codes "find") s.0 ∙ ap (λ z. codes "find " ++ z) (sym s.1)
  says_known _ s = absurd s

  same : (a rest : List ℕ) → Word a → t ≡ a ++ 32 ∷ rest → (x.now ≡ a) × (y.now ≡ rest)
  same a rest w is = same_parts (parted cut) (record { whole = is; lacks = w })

  two_words : ((c : Command) → SaysWith x.now y.now c → ⊥) → (c : Command) → Says t c → ⊥
  two_words h (Lend n c) s = let is = same (codes "lend") s.0 refl s.1 in h (Lend n c) (is.0, subst (λ z. LendArgs z n c) (sym is.1) s.2)
  two_words h (Enter key m) s = let is = same (codes "enter") s.0 refl s.1 in h (Enter key m) (is.0, subst (λ z. EnterArgs z key.now m) (sym is.1) s.2)
  two_words h (Find key) s = let is = same (codes "find") key.now refl s in h (Find key) (is.0, sym is.1)
  two_words h Rows s = spaced t (codes "rows") cut.inside refl s
  two_words h Clashes s = spaced t (codes "clashes") cut.inside refl s
  two_words h Count s = spaced t (codes "count") cut.inside refl s
  two_words h Back s = spaced t (codes "back") cut.inside refl s
  two_words h _ s = s

  pub says_words : (r : Option Command) (c : Command) → (BlankLine t → ⊥) → Known x.now y.now r → c ≡ unwrap_or r (Unknown x) → Parsed t c
  says_words None c other h e = subst (Parsed t) (sym e) (cut.front, other, two_words h)
  says_words (Some d) c other h e = subst (Parsed t) (sym e) (says_known d h)
