use Rattle.std.proofs.Common.{◌≡◌, ℕ, ◌<◌, [], map, get_or}
use Rattle.forms.proofs.lead.first_repeat.Given as goal
use Rattle.forms.specs.Repeats.{ApartBelow, bells_of}

abbrev pub invariant-loop-j : goal.invariant-loop-j
invariant-loop-j l = ApartBelow (map bells_of l.rows) l.j

abbrev pub invariant-loop-i : goal.invariant-loop-i
invariant-loop-i l = (h : ℕ) → h < l.i → get_or (map bells_of l.rows) h [] ≡ get_or (map bells_of l.rows) l.j [] → ⊥
