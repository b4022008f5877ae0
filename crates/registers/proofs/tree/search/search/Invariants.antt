use Rattle.std.proofs.Common.{◌≡◌, ◌-◌, ◌<◌, length}
use Rattle.registers.specs.Nodes.{stop}
use Rattle.registers.proofs.tree.search.search.Given as goal

abbrev pub invariant-loop-at : goal.invariant-loop-at
invariant-loop-at l =
    let n = length l.nodes in
    (l.at < n) × (stop l.nodes n l.code n l.at ≡ stop l.nodes n l.code n 0)

abbrev pub decreases-loop-at : goal.decreases-loop-at
decreases-loop-at l = length l.nodes - l.at
