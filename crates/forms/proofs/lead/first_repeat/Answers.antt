use Rattle.std.proofs.Common.{sym, ◌∙◌, arith, below_more}
use Rattle.forms.proofs.Leading.{compared}
use Rattle.forms.proofs.lead.first_repeat.Goals as goal
use Rattle.std.proofs.lemmas.Bool.{false≢true}
use Rattle.std.proofs.lemmas.List.{length-take-le}

pub loop-i-preserved : goal.loop-i-preserved
loop-i-preserved c =
    let same = compared c.args.rows.now c.loop-i.i c.loop-j.j c.earlier-item.result c.index-rows-j.result c.loop-i-test.true c.loop-j-test.true c.earlier-item.is c.index-rows-j.is in
    below_more _ _ c.loop-i.invariant (λ e. false≢true (c.if-eq.ensures ∙ same.1 e))

pub returns-then-eq : goal.returns-then-eq
returns-then-eq c =
    let same = compared c.args.rows.now c.loop-i.i c.loop-j.j c.earlier-item.result c.index-rows-j.result c.loop-i-test.true c.loop-j-test.true c.earlier-item.is c.index-rows-j.is in
    (c.loop-j-test.true, omega (arith, length-take-le c.loop-j.j c.args.rows.now (omega arith)), same.0 (sym c.if-eq.ensures), c.loop-j.invariant)
