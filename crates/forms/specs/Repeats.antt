-- A row that stood already.
use Rattle.std.specs.Prelude.{◌≡◌, ℕ, ◌<◌, List, [], Some, None, Option, ◌≢◌, slice_index_or}
use Rattle.rows.specs.declared.row.Row.{Row}

abbrev pub bells_of : Row → List ℕ
bells_of r = r.bells

-- no row before place l stood at an earlier place
abbrev pub ApartBelow : List (List ℕ) → ℕ → Type 0
ApartBelow rows l = (j i : ℕ) → j < l → i < j → slice_index_or rows i [] ≢ slice_index_or rows j []

-- the first place below l whose row stood already, and the place before it; or none
abbrev pub RepeatIn : List (List ℕ) → ℕ → Option (ℕ × ℕ) → Type 0
RepeatIn rows l None = ApartBelow rows l
RepeatIn rows l (Some p) = (p.0 < l) × (p.1 < p.0) × (slice_index_or rows p.1 [] ≡ slice_index_or rows p.0 []) × ApartBelow rows p.0
