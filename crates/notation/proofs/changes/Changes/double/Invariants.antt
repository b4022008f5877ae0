use Rattle.std.proofs.Common.{◌≡◌, ◌-◌, ◌++◌, take, drop}
use Rattle.notation.proofs.changes.Changes.double.Given as goal
use Rattle.notation.specs.Drafts.{listed, mirrored}

abbrev pub invariant-loop-back : goal.invariant-loop-back
invariant-loop-back l = listed l.self ≡ listed l.fn.self ++ take (l.back - 1) (mirrored (drop l.from (listed l.fn.self)))
