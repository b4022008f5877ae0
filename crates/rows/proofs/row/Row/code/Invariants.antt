use Rattle.std.proofs.Common.{◌≡◌, ◌-◌}
use Rattle.rows.specs.Code.{fact, code_to}
use Rattle.rows.proofs.row.Row.code.Given as goal

abbrev pub invariant-loop-at : goal.invariant-loop-at
invariant-loop-at l = (l.weight ≡ fact (l.at - 1)) × (l.code ≡ code_to l.self.bells l.at)
