use Rattle.std.proofs.Common.{◌-◌, ◌≤◌}
use Rattle.notation.proofs.Effects.{Ringing}
use Rattle.notation.proofs.change.Change.apply.Given as goal

abbrev pub invariant-loop-p : goal.invariant-loop-p
invariant-loop-p l = (l.p ≤ 12) × Ringing l.self.made l.row.bells l.bells l.p

abbrev pub decreases-loop-p : goal.decreases-loop-p
decreases-loop-p l = 12 - l.p
