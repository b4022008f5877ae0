use Rattle.std.proofs.Common.{eqb, sym, ◌∙◌, arith, rules, tests}
use Rattle.rows.proofs.Counts.{is_row_by_single}
use Rattle.rows.proofs.text.once_each.Goals as goal
use Rattle.rows.specs.Rows.{count}
use Rattle.std.proofs.lemmas.Iterator.{YieldsList-from_range}
use Rattle.std.proofs.lemmas.Iterator.Search.{all_from_yields_List}

pub returns : goal.returns
returns c =
    all_from_yields_List (λ v. eqb (count v c.args.bells.now) 1) _ _ _ c.all.ensures.ran (YieldsList-from_range 1 13 12 (cc) (omega arith)) (λ x b q k. search (rules, tests))
    ∙ sym (is_row_by_single 12 c.args.bells.now c.told-bells)
