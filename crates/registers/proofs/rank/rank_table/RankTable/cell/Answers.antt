use Rattle.std.proofs.Common.{◌≡◌, arith}
use Rattle.registers.proofs.Tables.{last_below, own_last}
use Rattle.registers.proofs.rank.rank_table.RankTable.cell.Goals as goal
use Rattle.registers.specs.Shelves.{table_shelf}

pub returns-in-Some : goal.returns-in-Some
unfolding table_shelf
returns-in-Some g c =
    let table = c.args.self.now in
    let l = c.in-Some.last in
    let here : l.code ≡ c.args.code = omega (arith, c.from.ensures, c.if-from-code.true) in
    (omega (arith, last_below table l c.in-Some.is), own_last table l c.in-Some.is c.args.code here)
