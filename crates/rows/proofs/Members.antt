-- What it is to be a row, place by place: how long it is, which bells it has, and where each bell stands.
use Rattle.std.proofs.Common.{◌≡◌, ℕ, zero, suc, ◌+◌, ◌-◌, ◌<◌, ◌≤◌, Bool, true, ◌&&◌, eqb, leb, List, [], ◌∷◌, map, length, get_or, count_by, refl, ap, ◌∙◌, inl, inr, arith}
use Rattle.rows.specs.Rows.{bell_in, place_of, count, each, is_row, RowOf}
use Rattle.std.proofs.lemmas.Bool.{and_parts, and_from, leb-true, eqb-true, le-leb, eq-eqb, ne_eqb, cases_eq}
use Rattle.std.proofs.lemmas.Bool.Decides.{nat_tests}
use Rattle.std.proofs.lemmas.List.FromFn.{length-range_with_len, get_or-range_with_len}
use Rattle.std.proofs.lemmas.List.Recursion.{and_at, and_from_places, is_count_by}
use Rattle.std.specs.List.{range_with_len}

-- a test of each element is a test at each index
pub each_at : (p : ℕ → Bool) (xs : List ℕ) → each p xs ≡ true → (i : ℕ) → i < length xs → p (get_or xs i 0) ≡ true
each_at p xs h i l = and_at (each p) p refl (λ _ _. refl) xs i 0 l h

pub each_from : (p : ℕ → Bool) (xs : List ℕ) → ((i : ℕ) → i < length xs → p (get_or xs i 0) ≡ true) → each p xs ≡ true
each_from p xs h = and_from_places (each p) p refl (λ _ _. refl) xs 0 h

-- the bells 1 to n stand once each
abbrev pub single : ℕ → List ℕ → Bool
single n a = each (λ v. eqb (count v a) 1) (range_with_len 1 n)

pub single_at : (n : ℕ) (a : List ℕ) → single n a ≡ true → (v : ℕ) → 1 ≤ v → v ≤ n → count v a ≡ 1
single_at n a h v lo hi =
    let e : get_or (range_with_len 1 n) (v - 1) 0 ≡ v = get_or-range_with_len 1 n (v - 1) 0 (omega arith) ∙ omega arith in
    let at = each_at (λ w. eqb (count w a) 1) (range_with_len 1 n) h (v - 1) (rw length-range_with_len (omega arith)) in
    eqb-true (count v a) 1 (rw e at at)

pub single_from : (n : ℕ) (a : List ℕ) → ((v : ℕ) → 1 ≤ v → v ≤ n → count v a ≡ 1) → single n a ≡ true
single_from n a once =
    each_from (λ v. eqb (count v a) 1) (range_with_len 1 n) (λ i l.
    let k : i < n = rw length-range_with_len at l in
    let e : get_or (range_with_len 1 n) i 0 ≡ 1 + i = get_or-range_with_len 1 n i 0 k in
    rw e (eq-eqb (count (1 + i) a) 1 (once (1 + i) (omega arith) (omega arith))))

-- a row of n places, by its facts
pub record Member (n : ℕ) (a : List ℕ) : Type 0 where
  pub long : length a ≡ n
  pub low : (i : ℕ) → i < n → 1 ≤ get_or a i 0
  pub high : (i : ℕ) → i < n → get_or a i 0 ≤ n
  pub once : (v : ℕ) → 1 ≤ v → v ≤ n → count v a ≡ 1

pub member : (n : ℕ) (a : List ℕ) → RowOf n a → Member n a
unfolding is_row
member n a r =
    let bounded : ℕ → Bool = λ x. leb 1 x && leb x n in
    let parts = and_parts (eqb (length a) n) (each bounded a && single n a) r in
    let rest = and_parts (each bounded a) (single n a) parts.1 in
    let long : length a ≡ n = eqb-true (length a) n parts.0 in
    let both : (i : ℕ) → i < n → (leb 1 (get_or a i 0) ≡ true) × (leb (get_or a i 0) n ≡ true) =
    λ i l. and_parts (leb 1 (get_or a i 0)) (leb (get_or a i 0) n) (each_at bounded a rest.0 i (omega arith)) in
    record {
      long = long;
      low = λ i l. leb-true 1 (get_or a i 0) (both i l).0;
      high = λ i l. leb-true (get_or a i 0) n (both i l).1;
      once = single_at n a rest.1;
    }

pub row_from : (n : ℕ) (a : List ℕ) → Member n a → RowOf n a
unfolding is_row
row_from n a m =
    let bounded : ℕ → Bool = λ x. leb 1 x && leb x n in
    let long = m.long in
    and_from (eqb (length a) n) (each bounded a && single n a) (eq-eqb (length a) n long)
    (and_from (each bounded a) (single n a)
    (each_from bounded a (λ i l. and_from (leb 1 (get_or a i 0)) (leb (get_or a i 0) n) (le-leb 1 (get_or a i 0) (m.low i (omega arith))) (le-leb (get_or a i 0) n (m.high i (omega arith)))))
    (single_from n a m.once))

-- one place further in a list with one more bell in front
pub behind : (x : ℕ) (xs : List ℕ) (q : ℕ) → 1 ≤ q → bell_in (x ∷ xs) (suc q) ≡ bell_in xs q
behind x xs zero h = absurd (omega arith)
behind x xs (suc k) h =
    let up : suc (suc k) - 1 ≡ suc k = omega arith in
    let down : k ≡ suc k - 1 = omega arith in
    ap (λ i. get_or (x ∷ xs) i 0) up ∙ ap (λ i. get_or xs i 0) down

-- a bell that stands somewhere stands in its place
pub place_of_holds : (v : ℕ) (a : List ℕ) → 0 < count v a → (1 ≤ place_of v a) × (place_of v a ≤ length a) × (bell_in a (place_of v a) ≡ v)
place_of_holds v [] h = absurd (omega arith)
place_of_holds v (x ∷ xs) h =
    elim (cases_eq x v) [
      | inl e ↦ rw (eq-eqb x v e) (omega arith, omega arith, e)
      | inr d ↦
          let t = ne_eqb x v d in
          let there = place_of_holds v xs (rw t at h) in
          rw t (omega arith, omega arith, behind x xs (place_of v xs) there.0 ∙ there.2)
    ]

-- what stands at an index is counted
pub counted : (a : List ℕ) (i : ℕ) → i < length a → 0 < count (get_or a i 0) a
counted [] i l = absurd (omega arith)
counted (x ∷ xs) zero l = grind (arith, nat_tests)
counted (x ∷ xs) (suc i) l = let ih = counted xs i (omega arith) in grind (arith, nat_tests)

-- a bell that stands once stands in no other place
pub place_of_only : (a : List ℕ) (i : ℕ) → i < length a → count (get_or a i 0) a ≡ 1 → place_of (get_or a i 0) a ≡ suc i
place_of_only [] i l h = absurd (omega arith)
place_of_only (x ∷ xs) zero l h = grind (arith, nat_tests)
place_of_only (x ∷ xs) (suc i) l h =
    let ih = place_of_only xs i (omega arith) in
    let some = counted xs i (omega arith) in
    grind (arith, nat_tests)

-- where a function takes w, and nothing else of the list, to v, it carries how often w stands there to v
pub count_map : (f : ℕ → ℕ) (v w : ℕ) (xs : List ℕ) → ((i : ℕ) → i < length xs → eqb (f (get_or xs i 0)) v ≡ eqb (get_or xs i 0) w) → count v (map f xs) ≡ count w xs
count_map f v w [] h = refl
count_map f v w (x ∷ xs) h = rw (h 0 (omega arith), count_map f v w xs (λ i l. h (suc i) (omega arith)))

count_below : (w a n : ℕ) → w < a → count w (range_with_len a n) ≡ 0
count_below w a zero h = refl
count_below w a (suc n) h = let ih = count_below w (a + 1) n (omega arith) in grind (arith, nat_tests)

-- each number counted stands once
pub count_counting : (w a n : ℕ) → a ≤ w → w < a + n → count w (range_with_len a n) ≡ 1
count_counting w a zero lo hi = absurd (omega arith)
count_counting w a (suc n) lo hi =
    elim (cases_eq w a) [
      | inl e ↦ let none = count_below w (a + 1) n (omega arith) in grind (arith, nat_tests)
      | inr d ↦ let ih = count_counting w (a + 1) n (omega arith) (omega arith) in grind (arith, nat_tests)
    ]

-- the same count in std's words
pub count_is : (v : ℕ) (xs : List ℕ) → count v xs ≡ count_by (λ x. eqb x v) xs
count_is v = is_count_by (count v) (λ x. eqb x v) refl (λ x xs. grind (arith, nat_tests))
