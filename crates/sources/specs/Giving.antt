-- How a source goes on, and how layers count.
use Rattle.std.specs.Prelude.{ℕ, ◌+◌, ◌*◌, min, Bool, true, false, cond, List, length, Some, None, Option, nat_le}

-- how many were given after an answer: one more with each number
abbrev pub moved : Option ℕ → ℕ → ℕ
moved None n = n
moved (Some x) n = n + 1

-- in parts: the whole rounds that are gone, and what was given of this one
abbrev pub given_of_parts : ℕ → ℕ → List ℕ → ℕ → ℕ
given_of_parts times round xs given = cond (nat_le times round) (times * length xs) (round * length xs + min given (length xs))

-- in a join: what was given of the first list, or all of it and what was given of the second
abbrev pub given_of_join : Bool → List ℕ → ℕ → ℕ → ℕ
given_of_join true xs first second = length xs + second
given_of_join false xs first second = min first (length xs)
