use Rattle.std.proofs.Common.{arith}
use Rattle.registers.proofs.Tables.{previous_below}
use Rattle.registers.proofs.rank.rank_table.RankTable.previous.Goals as goal

pub bounds-self-code : goal.bounds-self-code
bounds-self-code g c =
    let below = previous_below c.args.self.now c.in_ok-last.last c.in_ok-last.was c.in-After.code c.in-After.is in
    omega arith

pub overflow_sub-result : goal.overflow_sub-result
overflow_sub-result g c = (previous_below c.args.self.now c.in_ok-last.last c.in_ok-last.was c.in-After.code c.in-After.is).1
