-- The last lead of a touch.
use Rattle.std.specs.Prelude.{◌≡◌, ℕ, ◌-◌, List, [], ◌∷◌, ◌++◌, Some, None, vec_items, Option}
use Rattle.books.specs.declared.lead.Lead.{Lead}
use Rattle.books.specs.declared.touch.Touch.{Touch}

abbrev pub LastOf : List Lead → Option Lead → Type 0
LastOf ls None = ls ≡ []
LastOf ls (Some l) = (front : List Lead) × (ls ≡ front ++ l ∷ [])

-- without its last lead, which had this many rows, if it has one
abbrev pub Removed : Touch → ℕ → Touch → Type 0
Removed t rows u = (l : Lead) (front : List Lead) → vec_items t.leads ≡ front ++ l ∷ [] → (vec_items u.leads ≡ front) × (u.next ≡ l.head) × (u.rows ≡ t.rows - rows)
