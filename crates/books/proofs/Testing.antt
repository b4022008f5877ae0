-- The tests for rows tell what they test, and a lead is free exactly when its test says so.
use Rattle.std.proofs.Common.{◌≡◌, ℕ, zero, suc, ◌<◌, true, false, not, ◌&&◌, ltb, ◌⊎◌, List, [], ◌∷◌, length, get_or, Decides, refl, sym, ◌∙◌, inl, inr, ⊎_elim, arith}
use Rattle.books.specs.Law.{among, apart, free, Free, Turned}
use Rattle.books.specs.Leads.{Shape, Lead, rows_of, new_rows, Among, Shares, FirstAgain}
use Rattle.books.specs.declared.fault.RingFault.{RingFault}
use Rattle.books.specs.declared.fault.RingFault.TheVariants.{Form as NoForm, Limit, Again, Register}
use Rattle.std.proofs.lemmas.Bool.{and_parts, and_from, cases_Bool, not-true, not_from_false, both_ways}
use Rattle.std.proofs.lemmas.Bool.Decides.{Decides-and, Decides-ltb}
use Rattle.std.proofs.lemmas.List.{get_or_read}
use Rattle.std.proofs.lemmas.List.Folds.{Any-from_list_any, list_any_at}
use Rattle.std.proofs.lemmas.Slice.Eq.{bytes_eq-Decides}
use Rattle.std.specs.Str.{bytes_eq}

-- the test for a row tells whether it stands at some place
pub among_true : (book : List (List ℕ)) (x : List ℕ) → among book x ≡ true → Among book x
among_true book x h = let t = Any-from_list_any (λ y. bytes_eq y x) book h in (t.0, (t.2, sym (get_or_read book t.0 t.1 t.2 (sym t.3) []) ∙ (bytes_eq-Decides t.1 x).0 t.4))

pub among_from : (book : List (List ℕ)) (x : List ℕ) → Among book x → among book x ≡ true
among_from book x a = list_any_at (λ y. bytes_eq y x) book a.0 [] a.1.0 ((bytes_eq-Decides (get_or book a.0 []) x).1 a.1.1)

-- what fails the test stands nowhere
pub not_among : (book : List (List ℕ)) (x : List ℕ) → among book x ≡ false → Among book x → ⊥
not_among book x h a = both_ways (among book x) h (among_from book x a)

-- a shared row is the first of the new rows or one of the others
nowhere : (book : List (List ℕ)) (x : List ℕ) (xs : List (List ℕ)) → (Among book x → ⊥) → (Shares book xs → ⊥) → (k : ℕ) → k < length (x ∷ xs) → Among book (get_or (x ∷ xs) k []) → ⊥
nowhere book x xs h none zero l a = h a
nowhere book x xs h none (suc k) l a = none (k, omega arith, a)

-- the test of new rows tells whether one of them is in the book
pub decides_apart : (book new : List (List ℕ)) → Decides (apart book new) (Shares book new → ⊥)
decides_apart book [] = (λ h s. absurd (omega (arith, s.1)), λ h. refl)
decides_apart book (x ∷ xs) =
    let rest = decides_apart book xs in (
      λ h s. let parts = and_parts (not (among book x)) (apart book xs) h in nowhere book x xs (not_among book x (not-true (among book x) parts.0)) (rest.0 parts.1) s.0 s.1 s.2,
      λ h. and_from (not (among book x)) (apart book xs)
          (not_from_false (among book x) (⊎_elim (λ e. absurd (h (0, omega arith, among_true book x e))) (λ e. e) (cases_Bool (among book x))))
          (rest.1 (λ s. h (suc s.0, omega (arith, s.1), s.2))),
    )

-- no new row is in the book, or a first one is
abbrev pub Told : List (List ℕ) → List (List ℕ) → Type 0
Told book new = (Shares book new → ⊥) ⊎ ((i j : ℕ) × FirstAgain book new i j)

-- a row that is not in the book leaves the first where it is, one index further on
told_more : (book : List (List ℕ)) (x : List ℕ) (xs : List (List ℕ)) → (Among book x → ⊥) → Told book xs → Told book (x ∷ xs)
told_more book x xs h (inl none) = inl (λ s. nowhere book x xs h none s.0 s.1 s.2)
told_more book x xs h (inr t) = inr (suc t.0, t.1, record { k = suc t.2.k; within = omega (arith, t.2.within); place = omega (arith, t.2.place); stands = t.2.stands; first = at })
  where
    at : (e : ℕ) → e < suc t.2.k → Among book (get_or (x ∷ xs) e []) → ⊥
    at zero l a = h a
    at (suc e) l a = t.2.first e (omega arith) a

-- row by row: none of the new rows is in the book, or there is a first that is
pub told : (book new : List (List ℕ)) → Told book new
told book [] = inl (λ s. absurd (omega (arith, s.1)))
told book (x ∷ xs) =
    ⊎_elim (λ e. let there = among_true book x e in inr (length book, there.0, record { k = 0; within = omega arith; place = omega arith; stands = there.1; first = λ d l a. absurd (omega arith) }))
    (λ e. told_more book x xs (not_among book x e) (told book xs)) (cases_Bool (among book x))

-- where a row is shared there is a first
pub first_again : (book new : List (List ℕ)) → Shares book new → (i j : ℕ) × FirstAgain book new i j
first_again book new s = ⊎_elim (λ none. absurd (none s)) (λ t. t) (told book new)

-- the first that is in the book is one that is
pub shares : (book new : List (List ℕ)) (i j : ℕ) → FirstAgain book new i j → Shares book new
shares book new i j t = (t.k, t.within, (j, t.stands))

-- the three tests of a lead tell the three facts
pub decides_free : (forms : List Shape) (limit : ℕ) (leads : List Lead) (f : ℕ) → Decides (free forms limit leads f) (Free forms limit leads f)
unfolding free
decides_free forms limit leads f =
    let parts = Decides-and (ltb f (length forms)) (ltb (length leads) limit && apart (rows_of forms leads) (new_rows forms leads f)) (Decides-ltb f (length forms))
    (Decides-and (ltb (length leads) limit) (apart (rows_of forms leads) (new_rows forms leads f)) (Decides-ltb (length leads) limit) (decides_apart (rows_of forms leads) (new_rows forms leads f))) in
    (λ h. let t = parts.0 h in ((t.0, t.1.0), t.1.1), λ h. parts.1 (h.0.0, (h.0.1, h.1)))

-- a lead that is turned down is not free
pub not_free : (forms : List Shape) (limit : ℕ) (leads : List Lead) (f : ℕ) (e : RingFault) → Turned forms limit leads f e → Free forms limit leads f → ⊥
not_free forms limit leads f NoForm t h = omega (arith, h.0.0)
not_free forms limit leads f Limit t h = omega (arith, h.0.1)
not_free forms limit leads f (Again i j) t h = h.1 (shares (rows_of forms leads) (new_rows forms leads f) i j t.1)
not_free forms limit leads f (Register e) t h = t

-- what is free passes the test, since the test tells it
pub free_true : (forms : List Shape) (limit : ℕ) (leads : List Lead) (f : ℕ) → Free forms limit leads f → free forms limit leads f ≡ true
free_true forms limit leads f h = (decides_free forms limit leads f).1 h

-- what is turned down fails it, since it is not free
pub free_false : (forms : List Shape) (limit : ℕ) (leads : List Lead) (f : ℕ) (e : RingFault) → Turned forms limit leads f e → free forms limit leads f ≡ false
free_false forms limit leads f e t = ⊎_elim (λ h. absurd (not_free forms limit leads f e t ((decides_free forms limit leads f).0 h))) (λ h. h) (cases_Bool (free forms limit leads f))
