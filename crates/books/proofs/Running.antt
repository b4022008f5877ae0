-- One call more of a list of calls.
use Rattle.std.proofs.Common.{◌≡◌, ℕ, ◌+◌, ◌<◌, List, [], ◌∷◌, ◌++◌, map, length, get_or, take, drop, set, sym, refl, ap, ◌∙◌, subst, arith}
use lib.Seq.{map-set_same}
use Rattle.books.proofs.Lawful.{law_of_books}
use Rattle.books.specs.Law.{plain, after, standing, BookAnswer, Gives, At, Lawful}
use Rattle.books.specs.Leads.{Shape, Lead}
use Rattle.books.specs.Theorems.{Sound}
use Rattle.books.specs.declared.call.Call.{Call}
use Rattle.std.proofs.lemmas.List.{take_more, take_more_set, drop-drop, drop-set-lt, get_or-map}
use Rattle.std.proofs.lemmas.Bool.Decides.{nat_tests}

-- a call whose plain call stays may change
pub calls_stay : {S : Type 0} (list : S → List ℕ) (calls : List (Call S)) (i : ℕ) (c d : Call S) → plain list d ≡ plain list (get_or calls i c) → map (plain list) (set calls i d) ≡ map (plain list) calls
calls_stay list calls i c d e = map-set_same (plain list) calls i d c e

-- the plain call at i is that of the call at i
pub asked_at : {S : Type 0} (list : S → List ℕ) (calls : List (Call S)) (i : ℕ) (c : Call S) → i < length calls → plain list (get_or calls i c) ≡ get_or (map (plain list) calls) i (plain list (get_or calls i c))
asked_at list calls i c l = sym (get_or-map (plain list) calls i c (plain list (get_or calls i c)) l)

-- what stands after i is not written at i
pub rest_stays : {X : Type 0} (xs ys : List X) (i : ℕ) (x : X) → drop i xs ≡ drop i ys → drop (i + 1) (set xs i x) ≡ drop (i + 1) ys
rest_stays xs ys i x e = drop-set-lt (i + 1) xs i x (omega arith) ∙ (sym (drop-drop 1 i xs) ∙ (ap (drop 1) e ∙ drop-drop 1 i ys))

-- no call is lawfully answered by no answer
pub lawful_none : (forms : List Shape) (limit : ℕ) → Lawful forms limit [] []
lawful_none forms limit = record { each = refl; exactly = λ k c a at_c at_a. absurd (at_none k c at_c) }
  where
    at_none : (k : ℕ) (c : Call (List ℕ)) → At [] k c → ⊥
    at_none k c e = grind (arith, nat_tests)

module _ (forms : List Shape) (limit : ℕ) (asked : List (Call (List ℕ))) (answers : List BookAnswer) (i : ℕ) (c : Call (List ℕ)) (a : BookAnswer) where
  -- the leads go on, and the law extends by what the leads give
  pub one_more : i < length asked → i < length answers → c ≡ get_or asked i c → Sound forms
      → (leads now : List Lead) → leads ≡ standing forms limit (take i asked) → Lawful forms limit (take i asked) (take i answers)
      → now ≡ after forms limit leads c → Gives forms limit leads c a
      → (now ≡ standing forms limit (take (i + 1) asked)) × Lawful forms limit (take (i + 1) asked) (take (i + 1) (set answers i a))
  one_more l m is sound leads now stand law on gives =
      let front : List (Call (List ℕ)) = take i asked in
      let calls_are : take (i + 1) asked ≡ front ++ c ∷ [] = take_more asked i c l ∙ ap (λ x. front ++ x ∷ []) (sym is) in (
        on ∙ (ap (λ ls. after forms limit ls c) stand ∙ (sym (law_of_books.goes_on forms limit front c) ∙ ap (standing forms limit) (sym calls_are))),
        subst (λ cs. Lawful forms limit cs (take (i + 1) (set answers i a))) (sym calls_are)
            (subst (Lawful forms limit (front ++ c ∷ [])) (sym (take_more_set answers i a m))
            (law_of_books.extends forms limit front (take i answers) c a sound law (subst (λ ls. Gives forms limit ls c a) stand gives))),
      )
