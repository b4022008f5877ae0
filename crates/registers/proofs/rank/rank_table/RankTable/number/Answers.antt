use Rattle.std.proofs.Common.{◌≡◌, sym, ◌∙◌, rules}
use Rattle.registers.proofs.Trails.{trail_length}
use Rattle.registers.proofs.rank.rank_table.RankTable.number.Goals as goal
use Rattle.registers.specs.Cells.{number}
use Rattle.registers.specs.Shelves.{table_shelf}

pub returns : goal.returns
unfolding table_shelf
returns g c =
    let table = c.args.self.now in
    let count : c.map_or.result ≡ number table.last = search rules in
    count ∙ sym (trail_length _ _ _ _ table.linked)
