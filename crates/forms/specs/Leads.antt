-- The rows of a lead.
use Rattle.std.specs.Prelude.{◌≡◌, ℕ, ◌<◌, Bool, List, [], ◌∷◌, length, ◌≢◌, slice_index_or, All}
use Rattle.notation.specs.Changes.{rung, ChangeOn}
use Rattle.rows.specs.Rows.{rounds}

-- a row, and each next row the one before with the next change rung
unfoldable pub rows_from : List (List Bool) → List ℕ → List (List ℕ)
unfolding rung
rows_from [] r = r ∷ []
rows_from (c ∷ cs) r = r ∷ rows_from cs (rung c r)

-- r(0) to r(L) of a lead with L changes: r(0) is rounds
abbrev pub lead_rows : List (List Bool) → List (List ℕ)
lead_rows cs = rows_from cs (rounds 12)

abbrev pub row_at : List (List Bool) → ℕ → List ℕ
row_at cs j = slice_index_or (lead_rows cs) j []

-- r(L)
abbrev pub turn : List (List Bool) → List ℕ
turn cs = row_at cs (length cs)

-- the row at place j, below L, stood already at place i, and no row before it did
pub record FirstRepeat (cs : List (List Bool)) (j i : ℕ) : Type 0 where
  pub inside : j < length cs
  pub before : i < j
  pub again : row_at cs i ≡ row_at cs j
  pub first : (k h : ℕ) → k < j → h < k → row_at cs h ≢ row_at cs k

-- no row of the lead stands twice
abbrev pub NoRepeat : List (List Bool) → Type 0
NoRepeat cs = (j i : ℕ) → j < length cs → i < j → row_at cs i ≢ row_at cs j

-- every change is one on n bells
abbrev pub ChangesOn : ℕ → List (List Bool) → Type 0
ChangesOn n cs = All (ChangeOn n) cs
