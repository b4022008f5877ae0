use Rattle.std.proofs.Common.{Bool, List, length, refl, ap, arith}
use Rattle.forms.proofs.Storing.{right_on, right_some, ending_on}
use Rattle.forms.proofs.Taking.{call_stored, may_call, no_call, refused}
use Rattle.forms.proofs.list.Forms.add_call.Goals as goal
use Rattle.notation.proofs.Drafting.{listed_long}
use Rattle.std.proofs.lemmas.List.{length-append}
use Rattle.std.proofs.lemmas.Result.{err_from_is_err_and}

pub returns-in_err-method-clause-answer : goal.returns-in_err-method-clause-answer
returns-in_err-method-clause-answer g c =
    let p = err_from_is_err_and c.from_residual-in_err-method.result c.from_residual-in_err-method.ensures.1 in
    let mark = c.in_ok-mark.ensures in
    let none = rw c.in_err-method.ensures.ok_part at c.called_method.ensures in
    let is = refused _ _ _ c.in_err-method.ensures.ok_part c.in_err-method.ensures.value in
    rw (p.1, p.2, is) (refl, no_call _ _ _ c.in_ok-mark.mark mark.0 none)

pub returns-then-is_full-clause-answer : goal.returns-then-is_full-clause-answer
returns-then-is_full-clause-answer g c =
    let may = may_call _ _ _ _ _ c.in_ok-method.method c.in_ok-method.ensures.ok_part c.in_ok-mark.ensures c.called_method.ensures in
    (refl, (_, _, may, c.if-is_full.ensures))

pub returns-in_err-ending-clause-answer : goal.returns-in_err-ending-clause-answer
returns-in_err-ending-clause-answer g c =
    let p = err_from_is_err_and c.from_residual-in_err-ending.result c.from_residual-in_err-ending.ensures.1 in
    let may = may_call _ _ _ _ _ c.in_ok-method.method c.in_ok-method.ensures.ok_part c.in_ok-mark.ensures c.called_method.ensures in
    rw (p.1, p.2) (refl, (_, _, may, c.if-is_full.ensures, c.in_err-ending.ensures.means))

pub returns-in_err-changes-clause-answer : goal.returns-in_err-changes-clause-answer
returns-in_err-changes-clause-answer g c =
    let p = err_from_is_err_and c.from_residual-in_err-changes.result c.from_residual-in_err-changes.ensures.1 in
    let may = may_call _ _ _ _ _ c.in_ok-method.method c.in_ok-method.ensures.ok_part c.in_ok-mark.ensures c.called_method.ensures in
    let long = rw c.in_err-changes.ensures.ok_part at c.with_ending.ensures in
    let is = refused _ _ _ c.in_err-changes.ensures.ok_part c.in_err-changes.ensures.value in
    rw (p.1, p.2, is) (refl, (_, _, may, c.if-is_full.ensures, (_, c.in_ok-ending.ensures.means, long)))

pub store-requires-clause-some : goal.store-requires-clause-some
store-requires-clause-some g c =
    let ends = rw c.in_ok-changes.ensures.ok_part at c.with_ending.ensures in
    omega (arith, listed_long c.in_ok-changes.changes, ap length ends.1, length-append {A = List Bool}, right_some _ _ _ c.in_ok-ending.ensures.means)

pub store-requires-clause-staged : goal.store-requires-clause-staged
store-requires-clause-staged g c =
    let may = may_call _ _ _ _ _ c.in_ok-method.method c.in_ok-method.ensures.ok_part c.in_ok-mark.ensures c.called_method.ensures in
    let ends = rw c.in_ok-changes.ensures.ok_part at c.with_ending.ensures in
    ending_on c.args.self.now.stage.bells _ _ _ _ may.2.0 c.args.self.now.staged (right_on _ _ _ c.in_ok-ending.ensures.means) ends.1

pub returns-clause-answer : goal.returns-clause-answer
returns-clause-answer g c =
    let may = may_call _ _ _ _ _ c.in_ok-method.method c.in_ok-method.ensures.ok_part c.in_ok-mark.ensures c.called_method.ensures in
    let ends = rw c.in_ok-changes.ensures.ok_part at c.with_ending.ensures in
    call_stored _ _ _ _ _ c.args.mark c.in_ok-mark.mark c.in_ok-method.method.now _ _ c.store.result may c.if-is_full.ensures c.in_ok-ending.ensures.means ends.0 ends.1 c.store.ensures.answer
