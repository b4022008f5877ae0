-- A change: of each of the twelve places, whether it is made.
use Rattle.std.specs.Prelude.{◌≡◌, ℕ, ◌-◌, ◌%◌, ◌<◌, ◌≤◌, Bool, true, false, cond, ◌&&◌, ◌||◌, List, [], ◌∷◌, ◌++◌, map, ◌==◌, nat_le, nat_lt, slice_index_or}
use Rattle.std.specs.List.{range_with_len}

-- the places written for a change are in order: strictly ascending from above p, none above n
abbrev pub ascend : ℕ → ℕ → List ℕ → Bool
ascend n p [] = true
ascend n p (q ∷ qs) = nat_lt p q && (nat_le q n && ascend n q qs)

abbrev pub ascending : ℕ → List ℕ → Bool
ascending n ps = ascend n 0 ps

abbrev pub last : ℕ → List ℕ → ℕ
last p [] = p
last p (q ∷ qs) = last q qs

-- the places made: those written; if the first is even, place 1 is added, and if n minus the last is odd, place n
abbrev pub places : ℕ → List ℕ → List ℕ
places n [] = []
places n (p ∷ ps) = cond (p % 2 == 0) (1 ∷ []) [] ++ ((p ∷ ps) ++ cond ((n - last p ps) % 2 == 1) (n ∷ []) [])

abbrev pub has : ℕ → List ℕ → Bool
has p [] = false
has p (q ∷ qs) = p == q || has p qs

-- the change in which these places are made on n bells; the covers above n stay too
abbrev pub making : ℕ → List ℕ → List Bool
making n ps = map (λ p. has p ps || nat_lt n p) (range_with_len 1 12)

-- the change that is written with these places
abbrev pub made : ℕ → List ℕ → List Bool
made n ps = making n (places n ps)

-- a change on n bells: the places above n are made
abbrev pub ChangeOn : ℕ → List Bool → Type 0
ChangeOn n m = (p : ℕ) → n < p → p ≤ 12 → slice_index_or m (p - 1) true ≡ true

-- reading from place 1, where a pair has crossed before or not: a place made stays, and two neighbouring places that are not made cross;
-- no place may be left over, and some pair must cross
unfoldable pub crosses : List Bool → Bool → Bool
crosses [] crossed = crossed
crosses (true ∷ ms) crossed = crosses ms crossed
crosses (false ∷ []) crossed = false
crosses (false ∷ (true ∷ ms)) crossed = false
crosses (false ∷ (false ∷ ms)) crossed = crosses ms true

unfoldable pub can_ring : List Bool → Bool
unfolding crosses
can_ring ms = crosses ms false

-- the bells after the change: those in places made stay, and neighbours outside cross
unfoldable pub rung : List Bool → List ℕ → List ℕ
rung [] xs = xs
rung (true ∷ ms) [] = []
rung (true ∷ ms) (x ∷ xs) = x ∷ rung ms xs
rung (false ∷ []) xs = xs
rung (false ∷ (true ∷ ms)) xs = xs
rung (false ∷ (false ∷ ms)) [] = []
rung (false ∷ (false ∷ ms)) (x ∷ []) = x ∷ []
rung (false ∷ (false ∷ ms)) (x ∷ (y ∷ xs)) = y ∷ (x ∷ rung ms xs)
