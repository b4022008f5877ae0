-- How a sheet is cut into lines and words, and what its numbers are.
use Rattle.std.specs.Prelude.{◌≡◌, ℕ, ◌+◌, ◌-◌, ◌*◌, ◌<◌, Bool, false, ◌&&◌, List, [], ◌∷◌, ◌++◌, length, Some, None, fold, Option, ◌==◌, nat_le}
use Rattle.std.specs.Borrow.{Bor}
use Rattle.std.specs.List.{position_or_len, before_first, after_first, list_all}

-- how many bytes stand before the first b
abbrev pub upto : ℕ → List ℕ → ℕ
upto b t = position_or_len (λ x. x == b) t

-- what stands before the first b, and behind it
abbrev pub before : ℕ → List ℕ → List ℕ
before b t = before_first (λ x. x == b) t

abbrev pub behind : ℕ → List ℕ → List ℕ
behind b t = after_first (λ x. x == b) t

-- t has a b, and its first one parts it into x and y
pub record CutInto (b : ℕ) (t x y : List ℕ) : Type 0 where
  pub inside : upto b t < length t
  pub front : x ≡ before b t
  pub back : y ≡ behind b t

-- what stands before the first b and behind it, if there is one
abbrev pub CutAt : ℕ → List ℕ → Option (Bor (List ℕ) × Bor (List ℕ)) → Type 0
CutAt b t None = upto b t ≡ length t
CutAt b t (Some p) = CutInto b t p.0.now p.1.now

-- what stands before the last b and behind it, if there is one
abbrev pub CutLast : ℕ → List ℕ → Option (Bor (List ℕ) × Bor (List ℕ)) → Type 0
CutLast b t None = upto b t ≡ length t
CutLast b t (Some p) = (t ≡ p.0.now ++ b ∷ p.1.now) × (upto b p.1.now ≡ length p.1.now)

-- the first line, and the lines behind its end; none where nothing is left
abbrev pub LineOf : List ℕ → Option (Bor (List ℕ)) → List ℕ → Type 0
LineOf t None rest = (length t ≡ 0) × (rest ≡ t)
LineOf t (Some line) rest = (0 < length t) × (line.now ≡ before 10 t) × (rest ≡ behind 10 t)

abbrev pub is_digit : ℕ → Bool
is_digit x = nat_le 48 x && nat_le x 57

-- one or more decimal digits
abbrev pub digits : List ℕ → Bool
digits [] = false
digits (x ∷ xs) = list_all is_digit (x ∷ xs)

-- the number that they write
abbrev pub value : List ℕ → ℕ
value t = fold (λ n x. n * 10 + (x - 48)) 0 t

-- a text without a space
abbrev pub Word : List ℕ → Type 0
Word w = upto 32 w ≡ length w

-- an empty line, or one that begins with `#`
abbrev pub BlankLine : List ℕ → Type 0
BlankLine [] = Unit {0}
BlankLine (b ∷ t) = b ≡ 35
