use Rattle.std.proofs.Common.{refl}
use Rattle.forms.proofs.Storing.{found_repeat, no_repeat}
use Rattle.forms.proofs.list.Forms.store.Goals as goal
use Rattle.notation.proofs.Drafting.{listed_long}

pub returns-in-Some-clause-answer : goal.returns-in-Some-clause-answer
returns-in-Some-clause-answer g c = (refl, (_, _, refl, found_repeat _ _ c.args.changes.count (listed_long c.args.changes) c.lead_rows-rows.ensures c.in-Some.j c.in-Some.i c.in-Some.ensures))

pub invariant_of-push_reserved : goal.invariant_of-push_reserved
invariant_of-push_reserved g c = record { some = c.requires.some; rung = c.lead_rows-rows.ensures; apart = no_repeat _ _ c.args.changes.count (listed_long c.args.changes) c.lead_rows-rows.ensures c.in_default.ensures }
