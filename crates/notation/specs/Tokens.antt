-- The next token of a text.
use Rattle.std.specs.Prelude.{◌≡◌, ℕ, ◌+◌, ◌<◌, ◌≤◌, ◌⊎◌, List, length, Some, None, Option, All, slice_index, slice_range}
use Rattle.notation.specs.Grammar.{Sign}
use Rattle.notation.specs.Reading.{Kind, kind, cross, point, comma, sign, other}
use Rattle.notation.specs.declared.token.Token.{Token}
use Rattle.notation.specs.declared.token.Token.TheVariants.{Run, Cross, Point, Comma, And, Plus, Other}
use Rattle.rows.specs.Text.{named}

-- a single byte of this kind stands at j, and the text goes on behind it
abbrev pub Single : List ℕ → ℕ → ℕ → ℕ → Kind → Type 0
Single t j at end k = (at ≡ j) × (j < length t) × (kind (slice_index t j) ≡ k) × (end ≡ j + 1)

-- from j on stands this token, and the next begins at end
abbrev pub TokenAt : List ℕ → ℕ → ℕ → Token → Type 0
TokenAt t j end (Run digits at) =
    (at ≡ j) × (j < end) × (end ≤ length t) × (digits.now ≡ slice_range t j end)
    × All (λ b. 0 < named b) digits.now × ((end ≡ length t) ⊎ (named (slice_index t end) ≡ 0))
TokenAt t j end (Cross at) = Single t j at end cross
TokenAt t j end (Point at) = Single t j at end point
TokenAt t j end (Comma at) = Single t j at end comma
TokenAt t j end (And at) = Single t j at end (sign Sign.amp)
TokenAt t j end (Plus at) = Single t j at end (sign Sign.plus)
TokenAt t j end (Other at) = Single t j at end other

abbrev pub Next : List ℕ → ℕ → ℕ → Option Token → Type 0
Next t j end None = (length t ≤ j) × (end ≡ j)
Next t j end (Some token) = TokenAt t j end token
