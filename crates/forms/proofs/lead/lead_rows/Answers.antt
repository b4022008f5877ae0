use Rattle.std.proofs.Common.{◌∷◌, [], length, refl, ap, arith}
use Rattle.forms.proofs.Leading.{standing_more, standing_all}
use Rattle.forms.proofs.lead.lead_rows.Goals as goal
use Rattle.forms.specs.Leads.{rows_from}
use Rattle.std.proofs.lemmas.List.{length-take-le}

pub loop-j-init : goal.loop-j-init
unfolding rows_from
loop-j-init c = record { room = refl; stand = ap (λ b. b ∷ []) c.rounds-rows.ensures.value }

pub loop-j-preserved : goal.loop-j-preserved
loop-j-preserved c =
    let changes = c.args.changes.now in
    let few = changes.few in
    let long = length-take-le changes.count changes.list (omega arith) in
    standing_more _ _ _ c.change-item.result c.index-rows-j.result _ c.loop-j-test.true (omega (arith, ap length c.as_slice-change-items.ensures)) c.loop-j.invariant c.change-item.is c.apply.ensures.value _ (omega arith)

pub returns : goal.returns
returns c =
    let changes = c.args.changes.now in
    let few = changes.few in
    standing_all _ _ c.loop-j.j changes.list changes.count c.as_slice-change-items.ensures (omega arith) (omega arith) c.loop-j.invariant
