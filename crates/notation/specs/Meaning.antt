-- What the reader answers: the changes of a notation without fault, or the fault that comes first; and there is no other such answer.
use Rattle.std.specs.Prelude.{◌≡◌, ℕ, Bool, List, Ok, Err, Result}
use Rattle.notation.specs.Drafts.{listed}
use Rattle.notation.specs.Faults.{First, Right}
use Rattle.notation.specs.declared.changes.Changes.{Changes}
use Rattle.notation.specs.declared.fault.Fault.{Fault}

abbrev pub Means : ℕ → List ℕ → Result Changes Fault → Type 0
Means n t (Ok c) = Right n t (listed c)
Means n t (Err f) = First n t f

abbrev pub Only : ℕ → List ℕ → Result Changes Fault → Type 0
Only n t (Ok c) = ((cs : List (List Bool)) → Right n t cs → cs ≡ listed c) × ((f : Fault) → First n t f → ⊥)
Only n t (Err f) = ((cs : List (List Bool)) → Right n t cs → ⊥) × ((g : Fault) → First n t g → g ≡ f)
