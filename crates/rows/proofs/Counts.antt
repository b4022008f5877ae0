-- How often each bell stands in a list, and how many of its bells are above a given one.
use Rattle.std.proofs.Common.{count_by, ◌≡◌, ℕ, zero, suc, ◌+◌, ◌<◌, ◌≤◌, ltb, List, [], ◌∷◌, ◌++◌, length, get_or, sym, refl, ◌∙◌, inl, inr, arith}
use Rattle.rows.specs.Code.{above}
use Rattle.rows.specs.Rows.{count, is_row, RowOf}
use Rattle.rows.proofs.Members.{member, row_from, counted, single, single_at, single_from}
use Rattle.std.proofs.lemmas.List.Recursion.{is_count_by}
use Rattle.std.proofs.lemmas.Bool.{cases_eq, cases_lt}
use Rattle.std.proofs.lemmas.Bool.Decides.{nat_tests, same_from_decides}

-- the bells of two lists, one after the other, are counted in each
pub count_append : (v : ℕ) (xs ys : List ℕ) → count v (xs ++ ys) ≡ count v xs + count v ys
count_append v [] ys = omega arith
count_append v (x ∷ xs) ys = let ih = count_append v xs ys in grind (arith, nat_tests)

-- likewise for the bells above one
pub above_append : (v : ℕ) (xs ys : List ℕ) → above v (xs ++ ys) ≡ above v xs + above v ys
above_append v [] ys = omega arith
above_append v (x ∷ xs) ys = let ih = above_append v xs ys in grind (arith, nat_tests)

-- a bell is above v if it is v + 1 or above that
above_step : (v : ℕ) (xs : List ℕ) → above v xs ≡ count (suc v) xs + above (suc v) xs
above_step v [] = omega arith
above_step v (x ∷ xs) = let ih = above_step v xs in grind (arith, nat_tests)

-- each bell is 0 or above 0
above_zero : (xs : List ℕ) → count 0 xs + above 0 xs ≡ length xs
above_zero [] = omega arith
above_zero (x ∷ xs) = let ih = above_zero xs in grind (arith, nat_tests)

-- no more bells are above one than there are
pub above_length : (v : ℕ) (xs : List ℕ) → above v xs ≤ length xs
above_length v [] = omega arith
above_length v (x ∷ xs) = let ih = above_length v xs in grind (arith, nat_tests)

-- none is above v where none of the greater bells occurs
pub above_none : (v : ℕ) (xs : List ℕ) → ((u : ℕ) → v < u → count u xs ≡ 0) → above v xs ≡ 0
above_none v [] h = refl
above_none v (x ∷ xs) h =
    let t : (u : ℕ) → v < u → count u xs ≡ 0 = λ u l. let c = h u l in grind (arith, nat_tests) in
    let ih = above_none v xs t in
    let c = h x in
    grind (arith, nat_tests)

-- above a smaller bell there are at least the bells above a greater one, and that one itself
pub above_more : (v w : ℕ) (xs : List ℕ) → v < w → count w xs + above w xs ≤ above v xs
above_more v w [] h = omega arith
above_more v w (x ∷ xs) h = let ih = above_more v w xs h in grind (arith, nat_tests)

-- the same in std's words
pub above_is : (v : ℕ) (xs : List ℕ) → above v xs ≡ count_by (λ x. ltb v x) xs
above_is v = is_count_by (above v) (ltb v) refl (λ x xs. grind (arith, nat_tests))

-- lists in which every bell occurs equally often, and none beyond n, have equally many bells above each
pub above_same : (n : ℕ) (xs ys : List ℕ) → ((u : ℕ) → count u xs ≡ count u ys) → ((u : ℕ) → n < u → count u xs ≡ 0) → (k v : ℕ) → n ≤ v + k → above v xs ≡ above v ys
above_same n xs ys same beyond zero v h =
    above_none v xs (λ u l. beyond u (omega arith)) ∙ sym (above_none v ys (λ u l. omega (arith, same u, beyond u (omega arith))))
above_same n xs ys same beyond (suc k) v h =
    let ih = above_same n xs ys same beyond k (suc v) (omega arith) in
    omega (arith, above_step v xs, above_step v ys, same (suc v))

-- n places in which the bells 1 to n stand once each
pub record Once (n : ℕ) (a : List ℕ) : Type 0 where
  pub size : length a ≡ n
  pub once : (u : ℕ) → 1 ≤ u → u ≤ n → count u a ≡ 1

pub once_of_row : (n : ℕ) (a : List ℕ) → RowOf n a → Once n a
once_of_row n a r = let m = member n a r in record { size = m.long; once = m.once }

module _ (n : ℕ) (a : List ℕ) (o : Once n a) where
  -- above v are the bells to n and those beyond
  above_to : (k v : ℕ) → v + k ≡ n → above v a ≡ k + above n a
  above_to zero v h = let e : v ≡ n = omega arith in rw e (omega arith)
  above_to (suc k) v h =
      let ih = above_to k (suc v) (omega arith) in
      omega (arith, above_step v a, o.once (suc v) (omega arith) (omega arith))

  -- there is no room for a 0, nor for a bell beyond n
  full : (count 0 a ≡ 0) × (above n a ≡ 0)
  full =
      let all = above_to n 0 (omega arith) in
      let size = o.size in
      (omega (arith, above_zero a), omega (arith, above_zero a))

  pub zeros : count 0 a ≡ 0
  zeros = full.0

  pub beyond : (u : ℕ) → n < u → count u a ≡ 0
  beyond u l = let none = full.1 in omega (arith, above_more n u a l)

  -- above v are the n − v greater ones
  pub above_row : (k v : ℕ) → v + k ≡ n → above v a ≡ k
  above_row k v h = let none = full.1 in omega (arith, above_to k v h)

  -- every bell is 1 to n
  pub bell_within : (i : ℕ) → i < n → (1 ≤ get_or a i 0) × (get_or a i 0 ≤ n)
  bell_within i h =
      let v = get_or a i 0 in
      let some : 0 < count v a = counted a i (omega (arith, o.size)) in
      elim (cases_eq v 0) [
        | inl e ↦ let z : count v a ≡ 0 = rw e zeros in absurd (omega arith)
        | inr d ↦ elim (cases_lt n v) [
          | inl l ↦ absurd (omega (arith, beyond v l))
          | inr l ↦ omega arith
        ]
      ]

  -- so this is a row
  pub row_of_once : RowOf n a
  row_of_once = row_from n a (record { long = o.size; low = λ i h. (bell_within i h).0; high = λ i h. (bell_within i h).1; once = o.once })

-- of n places it is enough to see that each bell from 1 to n stands once
pub is_row_by_single : (n : ℕ) (a : List ℕ) → length a ≡ n → is_row n a ≡ single n a
is_row_by_single n a size =
    same_from_decides (is_row n a) (single n a) (λ r. r, λ r. r)
    (λ e. row_of_once n a (record { size = size; once = single_at n a e }), λ r. single_from n a (member n a r).once)
