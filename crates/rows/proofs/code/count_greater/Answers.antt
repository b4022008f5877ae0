use Rattle.std.proofs.Common.{◌≡◌, ltb, count_by, sym, ◌∙◌, rules}
use Rattle.rows.proofs.Counts.{above_is}
use Rattle.rows.proofs.code.count_greater.Goals as goal

pub returns : goal.returns
returns c =
    let counted : c.sum.result ≡ count_by (λ x. ltb c.args.bell x) c.args.bells.now = search rules in
    counted ∙ sym (above_is c.args.bell c.args.bells.now)
