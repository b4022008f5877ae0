-- The row with a given code, one bell after another.
use Rattle.std.proofs.Common.{◌≡◌, ℕ, zero, suc, ◌+◌, ◌-◌, ◌*◌, ◌/◌, ◌%◌, ◌<◌, ◌≤◌, List, [], ◌∷◌, ◌++◌, map, length, get_or, take, drop, sym, refl, ap, ◌∙◌, subst, inl, inr, mul-le-mul_right, mod-lt, mul_assoc, add-mul, div-add-mod', arith, take-suc}
use Rattle.rows.specs.Code.{fact, code_to, code, inserted, raise, HasCode}
use Rattle.rows.specs.Rows.{RowOf, On}
use Rattle.rows.proofs.Codes.{own_place, code_on, has_its_code}
use Rattle.rows.proofs.Counts.{Once, bell_within, row_of_once}
use Rattle.rows.proofs.Digits.{code_grown, code_front, row_only}
use Rattle.rows.proofs.Raised.{grown, once_grown, once_last}
use Rattle.std.proofs.lemmas.List.FromFn.{length-range_with_len, get_or-range_with_len}
use Rattle.std.proofs.lemmas.List.{append_assoc, take-append-drop, take_all, take_at, length-take, length-take-le, length-append, length-map, get_or-append_right, get_or-drop, get_or-take}
use Rattle.std.proofs.lemmas.Bool.{cases_eq, cases_lt}
use Rattle.std.specs.List.{range_with_len}

-- what is left of a code after the digits of the first k places
unfoldable pub left : ℕ → ℕ → ℕ
left zero c = c
left (suc k) c = left k c / suc k

-- the row of k bells with these digits
unfoldable pub decoded : ℕ → ℕ → List ℕ
unfolding left
decoded zero c = []
decoded (suc k) c = grown (suc k - left k c % suc k) (decoded k c)

-- it is a row, since each digit is below its place
pub once_decoded : (k c : ℕ) → Once k (decoded k c)
unfolding decoded
once_decoded zero c = record { size = refl; once = λ u l m. absurd (omega arith) }
once_decoded (suc k) c =
    let d : left k c % suc k < suc k = mod-lt (left k c) (omega arith) in
    once_grown k (suc k - left k c % suc k) (decoded k c) (omega arith) (omega arith) (once_decoded k c)

-- one digit taken from a number that counts f's
taken : (x l q r s f c : ℕ) → q * s + r ≡ l → x + l * f ≡ c → x + r * f + q * (s * f) ≡ c
taken x l q r s f c e h =
    omega (arith, mul_assoc q s f, add-mul (q * s) r f, ap (λ (z : ℕ). z * f) e)

-- its code and what is left make up the number: the new digit is the remainder
pub code_decoded : (k c : ℕ) → code_to (decoded k c) k + left k c * fact k ≡ c
unfolding decoded code_to fact left
code_decoded zero c = omega arith
code_decoded (suc k) c =
    let r = left k c % suc k in
    let d : r < suc k = mod-lt (left k c) (omega arith) in
    let e : suc k - (suc k - r) ≡ r = omega arith in
    let g : code_to (decoded (suc k) c) (suc k) ≡ code_to (decoded k c) k + r * fact k =
    code_grown k (suc k - r) (decoded k c) (omega arith) (omega arith) (once_decoded k c) ∙ ap (λ (z : ℕ). code_to (decoded k c) k + z * fact k) e in
    ap (λ (z : ℕ). z + left k c / suc k * (suc k * fact k)) g
    ∙ taken (code_to (decoded k c) k) (left k c) (left k c / suc k) r (suc k) (fact k) c (div-add-mod' (left k c) (suc k)) (code_decoded k c)

-- nothing is left of a number below k!
pub left_none : (k c : ℕ) → c < fact k → left k c ≡ 0
left_none k c h = elim (cases_eq (left k c) 0) [
  | inl e ↦ e
  | inr d ↦ let m : 1 * fact k ≤ left k c * fact k = mul-le-mul_right (fact k) (omega arith) in absurd (omega (arith, code_decoded k c))
]

-- something is left only of a number that is not below k!
pub left_some : (k c : ℕ) → 0 < left k c → fact k ≤ c
left_some k c h = let m : 1 * fact k ≤ left k c * fact k = mul-le-mul_right (fact k) h in omega (arith, code_decoded k c)

-- where the first n bells make a row and the others stand in their own places, the first k make a row for each k from n on
once_covered : (n : ℕ) (a : List ℕ) → length a ≡ 12 → On n a → Once n (take n a) → (k : ℕ) → n ≤ k → k ≤ 12 → Once k (take k a)
once_covered n a s h o zero l m = let e : n ≡ 0 = omega arith in subst (λ (j : ℕ). Once j (take j a)) e o
once_covered n a s h o (suc k) l m =
    elim (cases_lt k n) [
      | inl b ↦ let e : n ≡ suc k = omega arith in subst (λ (j : ℕ). Once j (take j a)) e o
      | inr b ↦
          let ih = once_covered n a s h o k b (omega arith) in
          let f = take-suc a k 0 (omega arith) in
          rw (f, own_place n a h k b m) (once_last k (take k a) ih)
    ]

-- twelve bells of which the first n are decoded and the others stand in their own places make a row
pub decoded_row : (n c : ℕ) (a : List ℕ) → n ≤ 12 → length a ≡ 12 → On n a → take n a ≡ decoded n c → RowOf 12 a
decoded_row n c a l s h e =
    let o : Once 12 (take 12 a) = once_covered n a s h (rw e (once_decoded n c)) 12 l (omega arith) in
    let f : take 12 a ≡ a = take_all 12 a (omega arith) in
    row_of_once 12 a (rw f at o)

-- and where nothing is left, the row with that code
pub decoded_code : (n c : ℕ) (a : List ℕ) → n ≤ 12 → length a ≡ 12 → On n a → take n a ≡ decoded n c → left n c ≡ 0 → HasCode n c a
decoded_code n c a l s h e z =
    let r = decoded_row n c a l s h e in
    let front : code_to a n ≡ code_to (decoded n c) n =
    ap (λ (x : List ℕ). code_to x n) (sym (take-append-drop n a))
    ∙ code_front (take n a) (drop n a) n (omega (arith, length-take n a))
    ∙ ap (λ (x : List ℕ). code_to x n) e in
    let none = ap (λ (x : ℕ). x * fact n) z in
    has_its_code n c a r h (code_on n a r h l ∙ omega (arith, front, code_decoded n c))

-- the decoded bells with the covers behind them
covered : (n c : ℕ) → List ℕ
covered n c = decoded n c ++ range_with_len (suc n) (12 - n)

-- each number below n! is the code of a row on n bells
covered_code : (n c : ℕ) → n ≤ 12 → c < fact n → HasCode n c (covered n c)
unfolding covered
covered_code n c l h =
    let size = (once_decoded n c).size in
    decoded_code n c (covered n c) l
    (length-append (decoded n c) (range_with_len (suc n) (12 - n)) ∙ omega (arith, size, length-range_with_len (suc n) (12 - n)))
    (λ p k m.
    get_or-append_right (decoded n c) (range_with_len (suc n) (12 - n)) n (p - 1) 0 size (omega arith)
    ∙ get_or-range_with_len (suc n) (12 - n) (p - 1 - n) 0 (omega arith)
    ∙ omega arith)
    (take_at (decoded n c) (range_with_len (suc n) (12 - n)) n size)
    (left_none n c h)

-- a row whose code is below n! is a row on n bells
pub on_by_code : (n : ℕ) (a : List ℕ) → n ≤ 12 → RowOf 12 a → code a < fact n → On n a
on_by_code n a l r h =
    let b = covered_code n (code a) l h in
    subst (On n) (row_only 12 (covered n (code a)) a b.row r b.coded) b.on

-- a row on any number of bells is the one decoded from its code
pub decoded_only : (n c : ℕ) (a : List ℕ) → HasCode n c a → c < fact 12 → a ≡ decoded 12 c
decoded_only n c a h l =
    let none = ap (λ (x : ℕ). x * fact 12) (left_none 12 c l) in
    row_only 12 a (decoded 12 c) h.row (row_of_once 12 (decoded 12 c) (once_decoded 12 c)) (omega (arith, h.coded, code_decoded 12 c))

-- the first place holds bell 1, whatever the code
pub decoded_first : (c : ℕ) → decoded 1 c ≡ 1 ∷ []
unfolding decoded left
decoded_first c = let e : 1 - c % 1 ≡ 1 = omega arith in ap (λ (v : ℕ). v ∷ []) e

-- it has no digit but 0, so the whole code is left
pub left_first : (c : ℕ) → left 1 c ≡ c
unfolding left
left_first c = omega arith

-- the bells that insertion leaves at the front, and those behind
inserted_parts : (k v : ℕ) (a : List ℕ) → inserted k v a ≡ grown v (take k a) ++ drop (suc k) a
inserted_parts k v a = sym (append_assoc (map (raise v) (take k a)) (v ∷ []) (drop (suc k) a))

-- the front has one bell more
length_grown : (k v : ℕ) (a : List ℕ) → k ≤ length a → length (grown v (take k a)) ≡ suc k
length_grown k v a h =
    length-append (map (raise v) (take k a)) (v ∷ []) ∙ omega (arith, length-map (take k a) (raise v), length-take-le k a h)

-- inserting the bell of the next digit decodes one place more
pub inserted_decoded : (k c v : ℕ) (a : List ℕ) → k ≤ length a → take k a ≡ decoded k c → v ≡ suc k - left k c % suc k → take (suc k) (inserted k v a) ≡ decoded (suc k) c
unfolding decoded
inserted_decoded k c v a h e d =
    ap (take (suc k)) (inserted_parts k v a)
    ∙ take_at (grown v (take k a)) (drop (suc k) a) (suc k) (length_grown k v a h)
    ∙ ap (grown v) e
    ∙ ap (λ (w : ℕ). grown w (decoded k c)) d

-- and leaves the later bells in their own places
pub inserted_on : (k v : ℕ) (a : List ℕ) → k ≤ length a → On k a → On (suc k) (inserted k v a)
inserted_on k v a h on p l m =
    let z : suc k + (p - 1 - suc k) ≡ p - 1 = omega arith in
    ap (λ (x : List ℕ). get_or x (p - 1) 0) (inserted_parts k v a)
    ∙ get_or-append_right (grown v (take k a)) (drop (suc k) a) (suc k) (p - 1) 0 (length_grown k v a h) (omega arith)
    ∙ get_or-drop (suc k) a (p - 1 - suc k) 0
    ∙ ap (λ (i : ℕ). get_or a i 0) z
    ∙ on p (omega arith) m

-- no decoded bell is above the number of places
pub decoded_most : (k c : ℕ) (a : List ℕ) → take k a ≡ decoded k c → (i : ℕ) → i < k → get_or a i 0 ≤ k
decoded_most k c a e i h =
    omega (arith, (bell_within k (decoded k c) (once_decoded k c) i h).1, get_or-take k a i 0 h, ap (λ (x : List ℕ). get_or x i 0) e)
