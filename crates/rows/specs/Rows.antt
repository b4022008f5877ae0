-- A row is the list of its bells, from place 1 on. It has twelve places; what is said of the number of places holds of any.
use Rattle.std.specs.Prelude.{◌≡◌, ℕ, suc, ◌-◌, ◌<◌, ◌≤◌, Bool, true, cond, ◌&&◌, List, [], ◌∷◌, map, length, ◌==◌, nat_eq, nat_le, slice_index}
use Rattle.std.specs.List.{range_with_len}

-- a number of bells that can be rung
abbrev pub IsStage : ℕ → Type 0
IsStage n = (4 ≤ n) × (n ≤ 12)

-- every bell in its own place
abbrev pub rounds : ℕ → List ℕ
rounds n = range_with_len 1 n

-- the bell in place p
abbrev pub bell_in : List ℕ → ℕ → ℕ
bell_in a p = slice_index a (p - 1)

-- a × b has in place p the bell that a has in place b(p)
abbrev pub times : List ℕ → List ℕ → List ℕ
times a b = map (bell_in a) b

-- the place in which bell v stands
abbrev pub place_of : ℕ → List ℕ → ℕ
place_of v [] = 1
place_of v (x ∷ xs) = cond (x == v) 1 (suc (place_of v xs))

-- the inverse of a has in place v the place in which a has bell v, and so bell p in place a(p)
abbrev pub inverse : ℕ → List ℕ → List ℕ
inverse n a = map (λ v. place_of v a) (range_with_len 1 n)

-- how often bell v stands in a list
abbrev pub count : ℕ → List ℕ → ℕ
count v [] = 0
count v (x ∷ xs) = cond (x == v) (suc (count v xs)) (count v xs)

abbrev pub each : (ℕ → Bool) → List ℕ → Bool
each p [] = true
each p (x ∷ xs) = p x && each p xs

-- n places hold the bells 1 to n once each
unfoldable pub is_row : ℕ → List ℕ → Bool
is_row n a = length a == n && (each (λ x. nat_le 1 x && nat_le x n) a && each (λ v. nat_eq (count v a) 1) (range_with_len 1 n))

abbrev pub RowOf : ℕ → List ℕ → Type 0
RowOf n a = is_row n a ≡ true

-- a row on n bells: the bells above n are covers in their own places
abbrev pub On : ℕ → List ℕ → Type 0
On n a = (p : ℕ) → n < p → p ≤ 12 → bell_in a p ≡ p
