use Rattle.std.proofs.Common.{◌≡◌, ◌-◌, ◌≤◌, false, drop}
use Rattle.notation.proofs.written.rings.Given as goal
use Rattle.notation.specs.Changes.{crosses}

abbrev pub invariant-loop-stays : goal.invariant-loop-stays
invariant-loop-stays l = (l.p ≤ 12) × (crosses l.made false ≡ crosses (drop l.p l.made) l.crossed)

abbrev pub decreases-loop-stays : goal.decreases-loop-stays
decreases-loop-stays l = 12 - l.p
