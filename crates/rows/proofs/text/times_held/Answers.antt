use Rattle.std.proofs.Common.{◌≡◌, eqb, count_by, sym, ◌∙◌, arith, rules, tests}
use Rattle.rows.proofs.Members.{count_is}
use Rattle.rows.proofs.text.times_held.Goals as goal
use Rattle.std.proofs.lemmas.Iterator.Adapters.{at_most_from_yields_List, fits_from_length}
use Rattle.std.proofs.lemmas.Iterator.{YieldsList-from_slice}

-- twelve tests are counted
pub sum-requires-clause-fits : goal.sum-requires-clause-fits
sum-requires-clause-fits c =
    fits_from_length _ _ 12 _ (at_most_from_yields_List (YieldsList-from_slice c.args.bells.now cc) (omega arith)) c.map.ensures.closure (omega arith) (λ x r q k. search (rules, tests))

pub returns : goal.returns
returns c =
    let held : c.sum.result ≡ count_by (λ x. eqb x c.args.bell) c.args.bells.now = search rules in
    held ∙ sym (count_is c.args.bell c.args.bells.now)
