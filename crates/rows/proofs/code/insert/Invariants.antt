use Rattle.std.proofs.Common.{◌≡◌, ◌++◌, map, take, drop}
use Rattle.rows.specs.Code.{raise}
use Rattle.rows.proofs.code.insert.Given as goal

abbrev pub invariant-loop-other : goal.invariant-loop-other
invariant-loop-other l = l.other-items ≡ map (raise l.bell) (take l.other-index l.initial.other-items) ++ drop l.other-index l.initial.other-items
