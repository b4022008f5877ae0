use Rattle.std.proofs.Common.{◌<◌, length, arith}
use Rattle.registers.proofs.Tables.{last_below, rewritten}
use Rattle.registers.proofs.rank.rank_table.RankTable.settle.Goals as goal

pub bounds-self-last : goal.bounds-self-last
bounds-self-last g c =
    let table = c.args.self.now in
    let below : c.in-Some.last.code < length table.cells.now = omega (arith, last_below table c.in-Some.last c.in-Some.is) in
    below

pub invariant_of-self : goal.invariant_of-self
invariant_of-self g c =
    let sound = rewritten c.args.self.now c.in-Some.last c.in-Some.is c.in-Some.last.cell in
    record { linked = sound.linked; apart = sound.apart; kept = sound.kept }
