-- Distinct numbers below n are at most n: each number below n stands once or not at all.
use Rattle.std.proofs.Common.{◌≡◌, ℕ, zero, suc, ◌+◌, ◌<◌, ◌≤◌, cond, eqb, ltb, List, [], ◌∷◌, length, get_or, sym, refl, ap, ◌∙◌, ⊎_elim, arith}
use Rattle.books.specs.Theorems.{Pigeonhole}
use Rattle.rows.specs.Rows.{count}
use Rattle.std.proofs.lemmas.Bool.{eq-eqb, ne_eqb, lt-ltb, le-ltb, cases_eq}
use Rattle.std.proofs.lemmas.Bool.Decides.{nat_tests}

-- how many numbers of a list lie below n
abbrev below : ℕ → List ℕ → ℕ
below n [] = 0
below n (x ∷ xs) = cond (ltb x n) (suc (below n xs)) (below n xs)

-- no number lies below 0
below_zero : (xs : List ℕ) → below 0 xs ≡ 0
below_zero [] = refl
below_zero (x ∷ xs) = rw (le-ltb x 0 (omega arith)) (below_zero xs)

-- a number lies below n + 1 if it lies below n or is n, and not both
one_more : (x n b d c : ℕ) → d ≡ b + c → cond (ltb x (suc n)) (suc d) d ≡ cond (ltb x n) (suc b) b + cond (eqb x n) (suc c) c
one_more x n b d c h = grind (arith, nat_tests)

-- below n + 1 lies what lies below n, and n
below_more : (n : ℕ) (xs : List ℕ) → below (suc n) xs ≡ below n xs + count n xs
below_more n [] = refl
below_more n (x ∷ xs) = one_more x n (below n xs) (below (suc n) xs) (count n xs) (below_more n xs)

-- what stands at no index is not counted
count_none : (v : ℕ) (xs : List ℕ) → ((i : ℕ) → i < length xs → get_or xs i 0 ≡ v → ⊥) → count v xs ≡ 0
count_none v [] h = refl
count_none v (x ∷ xs) h = let ne : (x ≡ v → ⊥) = h 0 (omega arith) in rw (ne_eqb x v ne) (count_none v xs (λ i l. h (suc i) (omega arith)))

-- in a list without repeats a number stands at most once
count_once : (v : ℕ) (xs : List ℕ) → ((i j : ℕ) → i < j → j < length xs → get_or xs i 0 ≡ get_or xs j 0 → ⊥) → count v xs ≤ 1
count_once v [] h = omega arith
count_once v (x ∷ xs) h =
    ⊎_elim (λ e. rw (eq-eqb x v e) (let none = count_none v xs (λ j l g. h 0 (suc j) (omega arith) (omega arith) (e ∙ sym g)) in omega arith))
    (λ ne. rw (ne_eqb x v ne) (count_once v xs (λ i j l m. h (suc i) (suc j) (omega arith) (omega arith)))) (cases_eq x v)

-- each step from n to n + 1 brings at most one
below_most : (n : ℕ) (xs : List ℕ) → ((v : ℕ) → count v xs ≤ 1) → below n xs ≤ n
below_most zero xs h = omega (arith, below_zero xs)
below_most (suc n) xs h = omega (arith, below_more n xs, below_most n xs h, h n)

-- where every number lies below n, they are all counted
below_all : (n : ℕ) (xs : List ℕ) → ((i : ℕ) → i < length xs → get_or xs i 0 < n) → below n xs ≡ length xs
below_all n [] h = refl
below_all n (x ∷ xs) h = let l : x < n = h 0 (omega arith) in rw (lt-ltb x n l) (ap suc (below_all n xs (λ i m. h (suc i) (omega arith))))

-- all of them lie below n, and each number below n stands at most once
pub pigeonhole : Pigeonhole
pigeonhole n xs low apart = omega (arith, below_all n xs low, below_most n xs (λ v. count_once v xs apart))
