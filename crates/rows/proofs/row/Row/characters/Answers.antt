use Rattle.std.proofs.Common.{arith, rules}
use Rattle.rows.proofs.Mapped.{mapped}
use Rattle.rows.proofs.Members.{member}
use Rattle.rows.proofs.row.Row.characters.Goals as goal
use Rattle.rows.specs.Text.{character}

pub returns : goal.returns
returns c =
    let long = (member 12 _ c.args.self.now.once).long in
    mapped character c.map.ensures.items (omega arith) (λ x y q k. search rules)
