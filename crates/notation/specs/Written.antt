-- The change that is written with some places, or its fault.
use Rattle.std.specs.Prelude.{◌≡◌, ℕ, true, false, List, Ok, Err, Result}
use Rattle.notation.specs.Changes.{ascending, made, can_ring}
use Rattle.notation.specs.declared.change.Change.{Change}
use Rattle.notation.specs.declared.fault.Fault.{Fault}
use Rattle.notation.specs.declared.fault.Fault.TheVariants.{Byte, Early, Places, Unrung, Many}

abbrev pub WrittenFault : ℕ → List ℕ → ℕ → Fault → Type 0
WrittenFault n ws at (Byte k) = ⊥
WrittenFault n ws at (Early k) = ⊥
WrittenFault n ws at (Places p) = (p ≡ at) × (ascending n ws ≡ false)
WrittenFault n ws at (Unrung p) = (p ≡ at) × (ascending n ws ≡ true) × (can_ring (made n ws) ≡ false)
WrittenFault n ws at (Many s) = ⊥

-- on n bells these places, written at this byte, are read as this
abbrev pub Written : ℕ → List ℕ → ℕ → Result Change Fault → Type 0
Written n ws at (Ok c) = (ascending n ws ≡ true) × (c.made ≡ made n ws)
Written n ws at (Err f) = WrittenFault n ws at f
