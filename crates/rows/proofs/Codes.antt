-- The code of a row on n bells is below n!, and is the code of no other row.
use Rattle.std.proofs.Common.{◌≡◌, ℕ, zero, suc, ◌+◌, ◌-◌, ◌*◌, ◌<◌, ◌≤◌, List, ◌++◌, length, get_or, take, drop, sym, ap, ◌∙◌, inl, inr, mul_comm, add-one, arith}
use Rattle.rows.specs.Code.{above, fact, digit, code_to, code, HasCode}
use Rattle.rows.specs.Rows.{count, RowOf, On}
use Rattle.rows.proofs.Members.{counted}
use Rattle.rows.proofs.Counts.{count_append, above_none, beyond, once_of_row}
use Rattle.rows.proofs.Digits.{fact_grows, digit_at, code_below, row_only}
use Rattle.std.proofs.lemmas.List.{length-drop, take-append-drop, get_or-drop}
use Rattle.std.proofs.lemmas.Bool.{cases_lt}

-- what stands in its own place is read by the index before it
pub own_place : (n : ℕ) (a : List ℕ) → On n a → (p : ℕ) → n ≤ p → p < 12 → get_or a p 0 ≡ suc p
own_place n a h p l m =
    let e : suc p - 1 ≡ p = omega arith in
    let b = h (suc p) (omega arith) m in
    rw e at b

-- a bell that stands once, and after the first p places, is not among those
count_before : (a : List ℕ) (p i u : ℕ) → count u a ≤ 1 → p ≤ i → i < length a → get_or a i 0 ≡ u → count u (take p a) ≡ 0
count_before a p i u once l m e =
    let back : count u (take p a ++ drop p a) ≡ count u a = ap (count u) (take-append-drop p a) in
    let f : p + (i - p) ≡ i = omega arith in
    let at : get_or (drop p a) (i - p) 0 ≡ u = get_or-drop p a (i - p) 0 ∙ ap (λ (j : ℕ). get_or a j 0) f ∙ e in
    let some : 0 < count (get_or (drop p a) (i - p) 0) (drop p a) = counted (drop p a) (i - p) (omega (arith, length-drop p a)) in
    omega (arith, back, count_append u (take p a) (drop p a), rw at at some)

-- a place above the stage has digit 0: every greater bell stands after it, in its own place
digit_cover : (n : ℕ) (a : List ℕ) → RowOf 12 a → On n a → (p : ℕ) → n ≤ p → p < 12 → digit a (suc p) ≡ 0
digit_cover n a r h p l m =
    let o = once_of_row 12 a r in
    digit_at a p ∙ rw (own_place n a h p l m) (above_none (suc p) (take p a) (λ u k. elim (cases_lt 12 u) [
      | inl b ↦ omega (arith, beyond 12 a o u b, ap (count u) (take-append-drop p a), count_append u (take p a) (drop p a))
      | inr b ↦
          let e : suc (u - 1) ≡ u = omega arith in
          count_before a p (u - 1) u (omega (arith, o.once u (omega arith) b)) (omega arith) (omega (arith, o.size))
          (own_place n a h (u - 1) (omega arith) (omega arith) ∙ e)
    ]))

-- so the places above the stage add nothing to the code
code_cover : (n : ℕ) (a : List ℕ) → RowOf 12 a → On n a → (k : ℕ) → n ≤ k → k ≤ 12 → code_to a k ≡ code_to a n
unfolding code_to
code_cover n a r h zero l m = let e : n ≡ 0 = omega arith in rw e
code_cover n a r h (suc k) l m =
    elim (cases_lt k n) [
      | inl b ↦ let e : n ≡ suc k = omega arith in rw e
      | inr b ↦
          let ih = code_cover n a r h k b (omega arith) in
          let d = digit_cover n a r h k b m in
          rw (d, ih) (omega arith)
    ]

-- the code of a row on n bells, by its first n places
pub code_on : (n : ℕ) (a : List ℕ) → RowOf 12 a → On n a → n ≤ 12 → code a ≡ code_to a n
code_on n a r h l = code_cover n a r h 12 l (omega arith)

-- the code of a row on n bells is below n!
pub code_small : (n : ℕ) (a : List ℕ) → RowOf 12 a → On n a → n ≤ 12 → code a < fact n
code_small n a r h l = omega (arith, code_on n a r h l, code_below a n)

-- a row is the one row with its code
pub has_its_code : (n c : ℕ) (a : List ℕ) → RowOf 12 a → On n a → code a ≡ c → HasCode n c a
has_its_code n c a r h e =
    record { row = r; on = h; coded = e; only = λ b rb hb eb. row_only 12 b a rb r (eb ∙ sym e) }

-- the weight of a place is the weight of the one before, times its index
pub weight_next : (k w : ℕ) → 1 ≤ k → w ≡ fact (k - 1) → w * k ≡ fact k
unfolding fact
weight_next zero w h d = absurd (omega arith)
weight_next (suc k) w h d = let e : suc k - 1 ≡ k = omega arith in rw (d, e) (mul_comm (fact k) (suc k))

-- the factorials up to 12! are numbers of 32 bits
pub fact_fits : (k : ℕ) → k ≤ 12 → fact k ≤ 479001600
unfolding fact
fact_fits k h = fact_grows k 12 h

-- the code with one more place
pub code_next : (a : List ℕ) (k : ℕ) → code_to a (k + 1) ≡ code_to a k + above (get_or a k 0) (take k a) * fact k
unfolding code_to
code_next a k = rw (add-one k) (ap (λ (d : ℕ). code_to a k + d * fact k) (digit_at a k))
