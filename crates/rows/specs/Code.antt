-- The code of a row: each number below n! is the code of exactly one row on n bells.
use Rattle.std.specs.Prelude.{◌≡◌, ℕ, zero, suc, ◌+◌, ◌-◌, ◌*◌, cond, List, [], ◌∷◌, ◌++◌, map, take, drop, nat_le, nat_lt}
use Rattle.rows.specs.Rows.{bell_in, RowOf, On}

unfoldable pub fact : ℕ → ℕ
fact zero = 1
fact (suc n) = suc n * fact n

-- how many of these bells are greater than v
abbrev pub above : ℕ → List ℕ → ℕ
above v [] = 0
above v (x ∷ xs) = cond (nat_lt v x) (suc (above v xs)) (above v xs)

-- d(p): how many bells before place p are greater than the bell in place p
abbrev pub digit : List ℕ → ℕ → ℕ
digit a p = above (bell_in a p) (take (p - 1) a)

-- the sum of d(p) × (p − 1)! over the places from 1 to p; d(1) is 0
unfoldable pub code_to : List ℕ → ℕ → ℕ
unfolding fact
code_to a zero = 0
code_to a (suc p) = code_to a p + digit a (suc p) * fact p

abbrev pub code : List ℕ → ℕ
code a = code_to a 12

-- bell v goes to index `at`; the bells before it that are not smaller move up by one
abbrev pub raise : ℕ → ℕ → ℕ
raise v x = cond (nat_le v x) (suc x) x

abbrev pub inserted : ℕ → ℕ → List ℕ → List ℕ
inserted at v a = map (raise v) (take at a) ++ v ∷ drop (suc at) a

-- a is the row on n bells with code c, and the only one
pub record HasCode (n c : ℕ) (a : List ℕ) : Type 0 where
  pub row : RowOf 12 a
  pub on : On n a
  pub coded : code a ≡ c
  pub only : (b : List ℕ) → RowOf 12 b → On n b → code b ≡ c → b ≡ a
