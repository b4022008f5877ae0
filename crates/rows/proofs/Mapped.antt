-- What the `map` of an array asks and gives.
use Rattle.std.proofs.Common.{◌≡◌, ℕ, ◌<◌, List, [], ◌∷◌, zero, suc, ◌+◌, ◌≤◌, inl, inr, map, length, get_or, sym, ap, ◌∙◌, subst, arith}
use Rattle.std.proofs.lemmas.Bool.{cases_eq}
use Rattle.std.proofs.lemmas.Iterator.Adapters.{serves_from_places}
use Rattle.std.proofs.lemmas.List.{ext_get_or, get_or_default, get_or-map, length-map}
use Rattle.std.specs.Array.{list_steps, MapsFrom, IsMapOf}
use Rattle.std.specs.Fn.{Called}
use Rattle.std.specs.Iterator.{AlwaysYields, CallableAtEachTurn}
use denote.Param.Members.{Mut}

-- the elements come in their order
elements : (xs : List ℕ) → AlwaysYields list_steps (λ x. x) xs xs
elements [] = λ y j e. absurd (cc)
elements (x ∷ xs) = (λ j e. absurd (cc), λ y j e. (cc, subst (λ l. AlwaysYields list_steps (λ x. x) l xs) (cc) (elements xs)))

-- a closure that changes nothing may be called at each element, if it may at the first call
pub callable : {F : Type 0} {R : F → ℕ → F → Type 0} {Q : F → ℕ → Type 0} {f : F} (xs : List ℕ) → ((x : ℕ) (q : F) → R f x q → q ≡ f) → ((k : ℕ) → k < length xs → Q f (get_or xs k 0)) → CallableAtEachTurn list_steps R Q xs f
callable {F} {R} {Q} {f} xs same each =
    serves_from_places (record { runs = elements xs }) same (λ x k l e. subst (Q f) (get_or_default xs k 0 x l ∙ sym e) (each k l))

-- what it gives of each element stands in the same place of what the array gives
placed : {F : Type 0} (g : Mut F (ℕ × Unit {0}) ℕ) (f : F) (xs ys : List ℕ) (h : ℕ → ℕ) → ((x y : ℕ) (q : F) → Called g f (x, tt) y q → (q ≡ f) × (y ≡ h x))
    → (n i : ℕ) → MapsFrom g f xs ys i n → (k : ℕ) → i ≤ k → k < i + n → get_or ys k 0 ≡ h (get_or xs k 0)
placed g f xs ys h each zero i m k lo hi = absurd (omega arith)
placed g f xs ys h each (suc n) i (q, x, y, at_x, at_y, call, rest) k lo hi =
    let (same, is) = each x y q call in
    elim (cases_eq i k) [
      | inl e ↦ subst (λ j. get_or ys j 0 ≡ h (get_or xs j 0)) e (at_y.1 0 ∙ is ∙ ap h (sym (at_x.1 0)))
      | inr d ↦ placed g f xs ys h each n (i + 1) (subst (λ p. MapsFrom g p xs ys (i + 1) n) same rest) k (omega arith) (omega arith)
    ]

pub mapped : {F : Type 0} {g : Mut F (ℕ × Unit {0}) ℕ} {f : F} {xs ys : List ℕ} {n : ℕ} (h : ℕ → ℕ) → IsMapOf g f xs ys n → length xs ≡ n
    → ((x y : ℕ) (q : F) → Called g f (x, tt) y q → (q ≡ f) × (y ≡ h x)) → ys ≡ map h xs
mapped {F} {g} {f} {xs} {ys} {n} h m long each =
    let size = m.long in
    ext_get_or 0 ys (map h xs) (size ∙ sym (length-map xs h ∙ long)) (λ k l.
    placed g f xs ys h each n 0 m.each k (omega arith) (omega arith) ∙ sym (get_or-map h xs k 0 0 (omega arith)))
