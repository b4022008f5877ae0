-- The product of the numbers from 1 on.
use Rattle.std.proofs.Common.{◌≡◌, ℕ, suc, ◌+◌, ◌*◌, ◌<◌, List, [], ◌∷◌, length, get_or, fold, ap, ◌∙◌, mul_comm, arith}
use Rattle.rows.specs.Code.{fact}
use Rattle.std.specs.Iterator.Runs.{Run, ItemsCountUp}
use Rattle.std.specs.declared.option.Option.{Option}

-- n! times the numbers behind n
product_from : (n : ℕ) (xs : List ℕ) → ((k : ℕ) → k < length xs → get_or xs k 0 ≡ n + 1 + k) → fold (λ a x. a * x) (fact n) xs ≡ fact (n + length xs)
unfolding fact
product_from n [] h = let e : n ≡ n + 0 = omega arith in ap fact e
product_from n (x ∷ xs) h =
    let next : x ≡ suc n = omega (arith, h 0 (omega arith)) in
    let long : suc n + length xs ≡ n + length (x ∷ xs) = omega arith in
    rw next (ap (λ a. fold (λ b y. b * y) a xs) (mul_comm (fact n) (suc n)) ∙ product_from (suc n) xs (λ k l. omega (arith, h (suc k) (omega arith))) ∙ ap fact long)

-- a run of the numbers from 1 on gives the factorial of how many they are
pub product_up : {S : Type 0} {steps : S → Option ℕ → S → Type 0} (p : Run steps) (a b : ℕ) → a ≡ 1 → ItemsCountUp p a b → fold (λ a x. a * x) 1 p.items ≡ fact p.len
unfolding fact
product_up p a b first h =
    let long : 0 + length p.items ≡ p.len = omega (arith, p.long) in
    product_from 0 p.items (λ k l.
    let inside : k < p.len = omega (arith, p.long) in
    let read = p.reads k 0 inside in
    let counted = h.3 k inside in
    let e : get_or p.items k 0 ≡ a + k = cc in
    omega (arith, e)) ∙ ap fact long
