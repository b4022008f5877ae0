-- The digits of a row's code: they are bounded, and rows with equal codes are equal.
use Rattle.std.proofs.Common.{◌≡◌, ℕ, zero, suc, ◌+◌, ◌-◌, ◌*◌, ◌/◌, ◌<◌, ◌≤◌, List, [], ◌∷◌, ◌++◌, map, length, get_or, take, sym, refl, ap, ◌∙◌, inl, inr, mul-le-mul_right, suc-mul, arith, take-suc}
use native.Mathlib.Nat.{add-mul-div_right, div-eq_of_lt}
use Rattle.rows.specs.Code.{above, raise, fact, digit, code_to}
use Rattle.rows.specs.Rows.{count, RowOf}
use Rattle.rows.proofs.Counts.{Once, count_append, above_append, above_length, above_row, above_same, above_more, beyond, once_of_row, zeros}
use Rattle.rows.proofs.Raised.{grown, above_raised, above_raised_at}
use Rattle.std.proofs.lemmas.List.{length-map, length-take, get_or_append_left, take-append-le, get_or-map, take-map, get_or_at, take_at, take_all}
use Rattle.std.proofs.lemmas.Bool.{cases_eq, cases_lt, cases_order}
use Rattle.std.proofs.lemmas.Bool.Decides.{nat_tests}

-- factorials grow: each is a multiple of the one before
pub fact_grows : (n m : ℕ) → n ≤ m → fact n ≤ fact m
unfolding fact
fact_grows n zero h = let e : n ≡ 0 = omega arith in rw e (omega arith)
fact_grows n (suc m) h =
    elim (cases_lt m n) [
      | inl l ↦ let e : n ≡ suc m = omega arith in rw e (omega arith)
      | inr l ↦ omega (arith, fact_grows n m l, suc-mul m (fact m))
    ]

-- the digit of a place, by the index before it
pub digit_at : (a : List ℕ) (p : ℕ) → digit a (suc p) ≡ above (get_or a p 0) (take p a)
digit_at a p = let e : suc p - 1 ≡ p = omega arith in rw e

-- a digit counts some of the bells before its place
digit_most : (a : List ℕ) (p : ℕ) → digit a (suc p) ≤ p
digit_most a p = omega (arith, digit_at a p, above_length (get_or a p 0) (take p a), length-take p a)

-- the places from 1 to p give a number below p!
pub code_below : (a : List ℕ) (p : ℕ) → code_to a p < fact p
unfolding code_to fact
code_below a zero = omega arith
code_below a (suc p) =
    omega (arith, code_below a p, mul-le-mul_right (fact p) (digit_most a p), suc-mul p (fact p))

-- equal digits give equal codes
pub code_same : (a b : List ℕ) (p : ℕ) → ((q : ℕ) → q < p → digit a (suc q) ≡ digit b (suc q)) → code_to a p ≡ code_to b p
unfolding code_to
code_same a b zero h = refl
code_same a b (suc p) h =
    let ih = code_same a b p (λ q l. h q (omega arith)) in
    let d = h p (omega arith) in
    rw (ih, d)

-- a digit depends on no later place
digit_front : (xs ys : List ℕ) (q : ℕ) → q < length xs → digit (xs ++ ys) (suc q) ≡ digit xs (suc q)
digit_front xs ys q h =
    let e : suc q - 1 ≡ q = omega arith in
    let l : q ≤ length xs = omega arith in
    rw (e, get_or_append_left xs ys 0 q h, take-append-le q xs ys l)

-- nor does the number that the first places give
pub code_front : (xs ys : List ℕ) (p : ℕ) → p ≤ length xs → code_to (xs ++ ys) p ≡ code_to xs p
code_front xs ys p h = code_same (xs ++ ys) xs p (λ q l. digit_front xs ys q (omega arith))

-- raising keeps the digits
digit_raised : (v : ℕ) (xs : List ℕ) (q : ℕ) → q < length xs → digit (map (raise v) xs) (suc q) ≡ digit xs (suc q)
digit_raised v xs q h =
    let e : suc q - 1 ≡ q = omega arith in
    rw (e, get_or-map (raise v) xs q 0 0 h, take-map (raise v) q xs) (above_raised v (get_or xs q 0) (take q xs))

-- a row with one bell more has the digits of the row before and one more digit, by the bell that is put last
pub code_grown : (n v : ℕ) (b : List ℕ) → 1 ≤ v → v ≤ suc n → Once n b → code_to (grown v b) (suc n) ≡ code_to b n + (suc n - v) * fact n
unfolding code_to
code_grown n v b l m o =
    let size : length (map (raise v) b) ≡ n = length-map b (raise v) ∙ o.size in
    let early : code_to (grown v b) n ≡ code_to b n = code_front (map (raise v) b) (v ∷ []) n (omega arith) ∙ code_same (map (raise v) b) b n (λ q h. digit_raised v b q (omega (arith, o.size))) in
    let last : above (get_or (grown v b) n 0) (take n (grown v b)) ≡ suc n - v =
    rw (get_or_at (map (raise v) b) v [] 0 n size, take_at (map (raise v) b) (v ∷ []) n size)
    (above_raised_at v b l ∙ above_row n b o (suc n - v) (v - 1) (omega arith)) in
    rw (early, digit_at (grown v b) n ∙ last)

-- quotient and remainder are determined
divided : (f r s x y : ℕ) → r < f → s < f → r + x * f ≡ s + y * f → (r ≡ s) × (x ≡ y)
divided f r s x y h k e =
    let pos : 0 < f = omega arith in
    let q : x ≡ y = omega (arith, ap (λ (z : ℕ). z / f) e, add-mul-div_right r x pos, add-mul-div_right s y pos, div-eq_of_lt h, div-eq_of_lt k) in
    let z = ap (λ (t : ℕ). t * f) q in
    (omega arith, q)

-- of bells that both occur, equally many are above them only where they are the same
same_above : (v w : ℕ) (xs : List ℕ) → 0 < count v xs → 0 < count w xs → above v xs ≡ above w xs → v ≡ w
same_above v w xs h k e =
    elim (cases_order v w) [
      | inl s ↦ s
      | inr d ↦ elim d [
        | inl l ↦ let m = above_more v w xs l in absurd (omega arith)
        | inr l ↦ let m = above_more w v xs l in absurd (omega arith)
      ]
    ]

-- of two lists of the same bells, equal last digits come from equal last bells
same_last : (n : ℕ) (xs ys : List ℕ) (v w : ℕ) → ((u : ℕ) → count u (xs ++ v ∷ []) ≡ count u (ys ++ w ∷ [])) → ((u : ℕ) → n < u → count u (xs ++ v ∷ []) ≡ 0) → above v xs ≡ above w ys → v ≡ w
same_last n xs ys v w same beyond e =
    same_above v w (xs ++ v ∷ [])
    (rw count_append (grind (arith, nat_tests)))
    (rw same (rw count_append (grind (arith, nat_tests))))
    (let t = above_same n (xs ++ v ∷ []) (ys ++ w ∷ []) same beyond n w (omega arith) in
    let l : above v (xs ++ v ∷ []) ≡ above v xs = rw above_append (grind (arith, nat_tests)) in
    let m : above w (ys ++ w ∷ []) ≡ above w ys = rw above_append (grind (arith, nat_tests)) in
    omega arith)

-- lists of the same bells with the same code are equal: the last digit gives the last bell, and the rest has the same bells and code
code_only : (n : ℕ) (a b : List ℕ) (p : ℕ) → p ≤ length a → p ≤ length b → ((u : ℕ) → count u (take p a) ≡ count u (take p b)) → ((u : ℕ) → n < u → count u (take p a) ≡ 0) → code_to a p ≡ code_to b p → take p a ≡ take p b
unfolding code_to
code_only n a b zero h k same beyond e = refl
code_only n a b (suc p) h k same beyond e =
    let v = get_or a p 0 in
    let w = get_or b p 0 in
    let fa : take (suc p) a ≡ take p a ++ v ∷ [] = take-suc a p 0 h in
    let fb : take (suc p) b ≡ take p b ++ w ∷ [] = take-suc b p 0 k in
    let (rest, last) = divided (fact p) (code_to a p) (code_to b p) (digit a (suc p)) (digit b (suc p)) (code_below a p) (code_below b p) e in
    let counts : (u : ℕ) → count u (take p a ++ v ∷ []) ≡ count u (take p b ++ w ∷ []) = λ u. rw (← fa, ← fb) (same u) in
    let none : (u : ℕ) → n < u → count u (take p a ++ v ∷ []) ≡ 0 = λ u l. rw (← fa) (beyond u l) in
    let bell : v ≡ w = same_last n (take p a) (take p b) v w counts none (sym (digit_at a p) ∙ last ∙ digit_at b p) in
    let early : take p a ≡ take p b =
    code_only n a b p (omega arith) (omega arith)
    (λ u. omega (arith, counts u, count_append u (take p a) (v ∷ []), count_append u (take p b) (w ∷ []), ap (λ (x : ℕ). count u (x ∷ [])) bell))
    (λ u l. omega (arith, none u l, count_append u (take p a) (v ∷ [])))
    rest in
    fa ∙ rw (early, bell) refl ∙ sym fb

-- a row is the only one with its code
pub row_only : (n : ℕ) (a b : List ℕ) → RowOf n a → RowOf n b → code_to a n ≡ code_to b n → a ≡ b
row_only n a b ra rb e =
    let o = once_of_row n a ra in
    let q = once_of_row n b rb in
    let fa : take n a ≡ a = take_all n a (omega (arith, o.size)) in
    let fb : take n b ≡ b = take_all n b (omega (arith, q.size)) in
    sym fa ∙ code_only n a b n (omega (arith, o.size)) (omega (arith, q.size)) (λ u. rw (fa, fb) (counts o q u)) (λ u l. rw fa (beyond n a o u l)) e ∙ fb
  where
    counts : Once n a → Once n b → (u : ℕ) → count u a ≡ count u b
    counts o q u =
        elim (cases_eq u 0) [
          | inl z ↦ rw z (zeros n a o ∙ sym (zeros n b q))
          | inr d ↦ elim (cases_lt n u) [
            | inl l ↦ beyond n a o u l ∙ sym (beyond n b q u l)
            | inr l ↦ o.once u (omega arith) l ∙ sym (q.once u (omega arith) l)
          ]
        ]
