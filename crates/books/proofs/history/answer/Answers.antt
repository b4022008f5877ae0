use Rattle.books.proofs.Answered.{rings, rings_none, plays_all, plays_none, takes_one, takes_no_lead, judges_true, judges_not}
use Rattle.books.proofs.history.answer.Goals as goal
use Rattle.std.proofs.lemmas.Result.{err_from_is_err_and}

pub returns-in_ok-ring-in-Ring-clause-law : goal.returns-in_ok-ring-in-Ring-clause-law
returns-in_ok-ring-in-Ring-clause-law g c = λ k. rw c.in-Ring.is (rings _ _ _ _ _ _ _ c.in_ok-ring-in-Ring.ensures.moves (c.in_ok-ring-in-Ring.ensures.law k))

pub returns-in_err-ring-in-Ring-clause-law : goal.returns-in_err-ring-in-Ring-clause-law
returns-in_err-ring-in-Ring-clause-law g c =
    let p = err_from_is_err_and c.from_residual.result c.from_residual.ensures.1 in
    λ k. rw (p.1, p.2, c.in-Ring.is) (rings_none _ _ _ _ _ _ _ c.in_err-ring-in-Ring.ensures.moves (c.in_err-ring-in-Ring.ensures.law k))

pub returns-in_ok-play-in-Play-clause-law : goal.returns-in_ok-play-in-Play-clause-law
returns-in_ok-play-in-Play-clause-law g c = λ k. rw c.in-Play.is (plays_all _ _ _ _ _ _ _ c.in_ok-play-in-Play.ensures.moves (c.in_ok-play-in-Play.ensures.law k))

pub returns-in_err-play-in-Play-clause-law : goal.returns-in_err-play-in-Play-clause-law
returns-in_err-play-in-Play-clause-law g c =
    let p = err_from_is_err_and c.from_residual-in_err-play-in-Play.result c.from_residual-in_err-play-in-Play.ensures.1 in
    λ k. rw (p.1, p.2, c.in-Play.is) (plays_none _ _ _ _ _ _ _ c.in_err-play-in-Play.ensures.moves (c.in_err-play-in-Play.ensures.law k))

pub returns-in_ok-take_back-in-TakeBack-clause-law : goal.returns-in_ok-take_back-in-TakeBack-clause-law
returns-in_ok-take_back-in-TakeBack-clause-law g c = λ k. rw c.in-TakeBack.is (takes_one _ _ _ _ _ _ c.in_ok-take_back-in-TakeBack.ensures.takes (c.in_ok-take_back-in-TakeBack.ensures.law k))

pub returns-in_err-take_back-in-TakeBack-clause-law : goal.returns-in_err-take_back-in-TakeBack-clause-law
returns-in_err-take_back-in-TakeBack-clause-law g c =
    let p = err_from_is_err_and c.from_residual-in_err-take_back-in-TakeBack.result c.from_residual-in_err-take_back-in-TakeBack.ensures.1 in
    λ k. rw (p.1, p.2, c.in-TakeBack.is) (takes_no_lead _ _ _ _ _ _ c.in_err-take_back-in-TakeBack.ensures.takes (c.in_err-take_back-in-TakeBack.ensures.law k))

pub returns-in_ok-verdict-in-Verdict-clause-law : goal.returns-in_ok-verdict-in-Verdict-clause-law
returns-in_ok-verdict-in-Verdict-clause-law g c = λ k. rw c.in-Verdict.is (judges_true _ _ _ _ _ _ k (c.in_ok-verdict-in-Verdict.ensures.law k))

pub returns-in_err-verdict-in-Verdict-clause-law : goal.returns-in_err-verdict-in-Verdict-clause-law
returns-in_err-verdict-in-Verdict-clause-law g c =
    let p = err_from_is_err_and c.from_residual-in_err-verdict-in-Verdict.result c.from_residual-in_err-verdict-in-Verdict.ensures.1 in
    λ k. rw (p.1, p.2, c.in-Verdict.is) (judges_not _ _ _ _ _ _ k (c.in_err-verdict-in-Verdict.ensures.law k))
