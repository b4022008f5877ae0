use Rattle.std.proofs.Common.{Err, ap, ◌∙◌, arith}
use Rattle.notation.proofs.Answered.{told, token_before, underway_none, underway_more, underway_halts, underway_all}
use Rattle.notation.proofs.reader.read.Goals as goal
use Rattle.std.proofs.lemmas.Result.{err_from_is_err_and}

pub loop-token-init : goal.loop-token-init
loop-token-init c =
    let same = c.into_iter-token-iterator.ensures.into_iter_gives in
    underway_none _ _ _ _ (ap (λ x. x.text.now) same ∙ c.of-token-items.ensures.text) (ap (λ x. x.at) same ∙ c.of-token-items.ensures.at) c.new-draft.ensures.drafted c.new-draft.ensures.seen

pub take-requires : goal.take-requires
take-requires c = omega (arith, token_before _ _ _ _ c.loop-token.invariant c.in-Some.token c.next.new.self c.in-Some.ensures.steps)

pub loop-token-preserved : goal.loop-token-preserved
loop-token-preserved c =
    let u = c.loop-token.invariant in
    underway_more _ _ _ _ u c.in-Some.token _ c.in-Some.ensures.steps _ (c.in_ok-take.ensures.steps _ _ u.drafted) c.in_ok-take.ensures.seen

pub returns-in_err-take : goal.returns-in_err-take
returns-in_err-take c =
    let u = c.loop-token.invariant in
    let p = err_from_is_err_and c.from_residual.result c.from_residual.ensures.1 in
    let x = told _ _ (Err c.in_err-take.field-0.0) (underway_halts _ _ _ _ u c.in-Some.token c.next.new.self c.in-Some.ensures.steps _ (c.in_err-take.ensures.steps _ _ u.drafted)) in
    rw (p.1, p.2) (record { means = x.0; only = x.1 })

pub returns : goal.returns
returns c =
    let u = c.loop-token.invariant in
    let x = told _ _ c.finish.result (underway_all _ _ _ _ u _ c.in-None.ensures.steps.1.0 (c.finish.ensures _ _ u.drafted)) in
    record { means = x.0; only = x.1 }
