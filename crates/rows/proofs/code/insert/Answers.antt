use Rattle.std.proofs.Common.{get_or, take, append-nil, arith}
use Rattle.rows.proofs.Raised.{raised_all}
use Rattle.rows.proofs.code.insert.Goals as goal
use Rattle.rows.proofs.code.insert.Goals.{then-other-bell, else-other-bell}
use Rattle.rows.specs.Code.{raise}
use Rattle.std.proofs.lemmas.Bool.Decides.{nat_tests}
use Rattle.std.proofs.lemmas.List.{take_all, drop_all, get_or_default, set-get_or}
use Rattle.std.proofs.lemmas.List.Edits.{map_over_more}

pub loop-other-preserved : goal.loop-other-preserved
loop-other-preserved c =
    let i = c.loop-other.other-index in
    let ys = c.loop-other.other-items in
    let x = get_or ys i 0 in
    let more = map_over_more (raise c.args.bell) (take c.args.at c.args.bells.now) ys i x (omega arith) c.loop-other.invariant (get_or_default ys i 0 x (omega arith)) in
    let same = set-get_or ys i 0 in
    elim c.if-other-bell.branch [
      | then-other-bell w ↦ let e = w.other-items-is in let t = w.if-other-bell.true in grind (arith, nat_tests)
      | else-other-bell w ↦ let e = w.other-items-is in let t = w.if-other-bell.false in grind (arith, nat_tests)
    ]

pub returns : goal.returns
returns c =
    raised_all c.args.bell c.args.at c.args.bells.now c.loop-other.other-items (omega arith) (grind (arith, take_all, drop_all, append-nil))
