-- Leads, the rows that they ring, and the places of those rows.
use Rattle.std.specs.Prelude.{◌≡◌, ℕ, ◌+◌, ◌<◌, List, [], ◌∷◌, ◌++◌, map, length, get_or, take, ◌≢◌, slice_index_or}
use Rattle.rows.specs.Rows.{rounds, times}
use Rattle.std.specs.List.{flat_map}

-- a form as a book sees it: its rows r(0) to r(L − 1), and r(L), its turn
pub record Shape : Type 0 where
  pub rows : List (List ℕ)
  pub turn : List ℕ

-- a lead: the number of its form, and its head
pub record Lead : Type 0 where
  pub form : ℕ
  pub head : List ℕ

abbrev pub shape_at : List Shape → ℕ → Shape
shape_at forms f = slice_index_or forms f (record { rows = []; turn = rounds 12 })

-- the first head is rounds, and each next head is head × turn of the lead before
abbrev pub next_head : List Shape → List Lead → List ℕ
next_head forms [] = rounds 12
next_head forms (l ∷ []) = times l.head (shape_at forms l.form).turn
next_head forms (l ∷ (m ∷ ls)) = next_head forms (m ∷ ls)

-- every lead has the head that comes next behind the leads before it
abbrev pub Linked : List Shape → List Lead → Type 0
Linked forms leads = (k : ℕ) → k < length leads → (get_or leads k (record { form = 0; head = [] })).head ≡ next_head forms (take k leads)

-- the rows of a lead are head × r(0) to head × r(L − 1)
abbrev pub rows_of_lead : List Shape → Lead → List (List ℕ)
rows_of_lead forms l = map (times l.head) (shape_at forms l.form).rows

-- all rows, in order: the place of a row is its index here, and the length is how many there are
abbrev pub rows_of : List Shape → List Lead → List (List ℕ)
rows_of forms leads = flat_map (rows_of_lead forms) leads

-- the lead that a ring of f would add, its rows, and the leads with it
abbrev pub new_lead : List Shape → List Lead → ℕ → Lead
new_lead forms leads f = record { form = f; head = next_head forms leads }

abbrev pub new_rows : List Shape → List Lead → ℕ → List (List ℕ)
new_rows forms leads f = rows_of_lead forms (new_lead forms leads f)

abbrev pub added : List Shape → List Lead → ℕ → List Lead
added forms leads f = leads ++ new_lead forms leads f ∷ []

-- the leads when all of these numbers are rung
unfoldable pub rung : List Shape → List Lead → List ℕ → List Lead
rung forms leads [] = leads
rung forms leads (f ∷ fs) = rung forms (added forms leads f) fs

-- a row stands at place j
abbrev pub StandsAt : List (List ℕ) → ℕ → List ℕ → Type 0
StandsAt rows j x = (j < length rows) × (slice_index_or rows j [] ≡ x)

abbrev pub Among : List (List ℕ) → List ℕ → Type 0
Among rows x = (j : ℕ) × StandsAt rows j x

-- one of the new rows is in the book
abbrev pub Shares : List (List ℕ) → List (List ℕ) → Type 0
Shares book new = (k : ℕ) × (k < length new) × Among book (slice_index_or new k [])

abbrev pub NoRepeat : List (List ℕ) → Type 0
NoRepeat rows = (i j : ℕ) → i < j → j < length rows → slice_index_or rows i [] ≢ slice_index_or rows j []

-- the first of the new rows that is in the book would take place i, and stands at place j
pub record FirstAgain (book new : List (List ℕ)) (i j : ℕ) : Type 0 where
  pub k : ℕ
  pub within : k < length new
  pub place : i ≡ length book + k
  pub stands : StandsAt book j (slice_index_or new k [])
  pub first : (e : ℕ) → e < k → Among book (slice_index_or new e []) → ⊥
