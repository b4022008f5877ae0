use Rattle.std.proofs.Common.{map}
use Rattle.forms.proofs.Leading.{Standing}
use Rattle.forms.proofs.lead.lead_rows.Given as goal
use Rattle.notation.proofs.Drafting.{made_in}

abbrev pub invariant-loop-j : goal.invariant-loop-j
invariant-loop-j l = Standing (map made_in l.change-items) l.rows l.j
