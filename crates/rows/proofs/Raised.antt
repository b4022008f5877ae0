-- A bell put last in a row, with the bells that are not smaller moved up by one, gives a row of one bell more.
use Rattle.std.proofs.Common.{◌≡◌, ℕ, suc, ◌-◌, ◌<◌, ◌≤◌, List, [], ◌∷◌, ◌++◌, map, length, get_or, take, drop, set, refl, ◌∙◌, inl, inr, arith, drop-cons}
use Rattle.rows.specs.Code.{above, raise, inserted}
use Rattle.rows.specs.Rows.{count}
use Rattle.rows.proofs.Counts.{Once, count_append, beyond}
use Rattle.std.proofs.lemmas.List.{length-append, length-map, length-take-le, set_at}
use Rattle.std.proofs.lemmas.Bool.{cases_eq, cases_order}
use Rattle.std.proofs.lemmas.Bool.Decides.{nat_tests}

-- bell v put last, with the bells that are not smaller moved up by one
abbrev pub grown : ℕ → List ℕ → List ℕ
grown v b = map (raise v) b ++ v ∷ []

-- a bell below v stays
count_raised_below : (v u : ℕ) (xs : List ℕ) → u < v → count u (map (raise v) xs) ≡ count u xs
count_raised_below v u [] h = refl
count_raised_below v u (x ∷ xs) h = let ih = count_raised_below v u xs h in grind (arith, nat_tests)

-- no bell is raised to v
count_raised_at : (v u : ℕ) (xs : List ℕ) → u ≡ v → count u (map (raise v) xs) ≡ 0
count_raised_at v u [] e = refl
count_raised_at v u (x ∷ xs) e = let ih = count_raised_at v u xs e in grind (arith, nat_tests)

-- a bell that is not below v becomes the next one
count_raised_above : (v u : ℕ) (xs : List ℕ) → v < u → count u (map (raise v) xs) ≡ count (u - 1) xs
count_raised_above v u [] h = refl
count_raised_above v u (x ∷ xs) h = let ih = count_raised_above v u xs h in grind (arith, nat_tests)

-- raising keeps the order
pub above_raised : (v w : ℕ) (xs : List ℕ) → above (raise v w) (map (raise v) xs) ≡ above w xs
above_raised v w [] = refl
above_raised v w (x ∷ xs) = let ih = above_raised v w xs in grind (arith, nat_tests)

-- the raised bells above v are those that were not below it
pub above_raised_at : (v : ℕ) (xs : List ℕ) → 1 ≤ v → above v (map (raise v) xs) ≡ above (v - 1) xs
above_raised_at v [] h = refl
above_raised_at v (x ∷ xs) h = let ih = above_raised_at v xs h in grind (arith, nat_tests)

-- the next bell put last in its own place gives a row of one bell more
pub once_last : (n : ℕ) (b : List ℕ) → Once n b → Once (suc n) (b ++ suc n ∷ [])
once_last n b o =
    record {
      size = length-append b (suc n ∷ []) ∙ omega (arith, o.size);
      once = λ u l m. rw count_append (elim (cases_eq u (suc n)) [
        | inl e ↦ let c = beyond n b o u (omega arith) in grind (arith, nat_tests)
        | inr d ↦ let c = o.once u l (omega arith) in grind (arith, nat_tests)
      ]);
    }

-- so does any bell that is put last while the others make room for it
pub once_grown : (n v : ℕ) (b : List ℕ) → 1 ≤ v → v ≤ suc n → Once n b → Once (suc n) (grown v b)
once_grown n v b l m o =
    record {
      size = length-append (map (raise v) b) (v ∷ []) ∙ omega (arith, length-map b (raise v), o.size);
      once = λ u p q. rw count_append (elim (cases_order u v) [
        | inl e ↦ let r = count_raised_at v u b e in grind (arith, nat_tests)
        | inr d ↦ elim d [
          | inl f ↦ let r = count_raised_below v u b f in let c = o.once u p (omega arith) in grind (arith, nat_tests)
          | inr f ↦ let r = count_raised_above v u b f in let c = o.once (u - 1) (omega arith) (omega arith) in grind (arith, nat_tests)
        ]
      ]);
    }

-- with the bells before index i raised, writing v at i ends the insertion
pub raised_all : (v i : ℕ) (a ys : List ℕ) → i < length a → ys ≡ map (raise v) (take i a) → set (ys ++ drop i a) i v ≡ inserted i v a
raised_all v i a ys h e =
    rw (e, drop-cons a i 0 h) (set_at (map (raise v) (take i a)) (get_or a i 0) (drop (suc i) a) v i (length-map (take i a) (raise v) ∙ length-take-le i a (omega arith)))
