use Rattle.registers.proofs.Tables.{added, settled_beyond}
use Rattle.registers.proofs.rank.rank_table.RankTable.add.Goals as goal
use Rattle.registers.specs.Entries.{with_entries}
use Rattle.registers.specs.Shelves.{empty_table, table_shelf}

pub invariant_of-self : goal.invariant_of-self
unfolding table_shelf
invariant_of-self g c =
    let sound = (added c.args.self.now c.args.code c.args.mark c.requires.code_bound c.requires.absent _ _ _ c.settle.ensures.cells c.end-link.ensures c.number-count.ensures).0 in
    record { linked = sound.linked; apart = sound.apart; kept = sound.kept }

pub returns : goal.returns
unfolding table_shelf
returns g c =
    let table = c.args.self.now in
    let more = (added table c.args.code c.args.mark c.requires.code_bound c.requires.absent _ _ _ c.settle.ensures.cells c.end-link.ensures c.number-count.ensures).1 in
    let beyond = settled_beyond table _ c.settle.ensures.cells in
    record {
      after = λ i. with_entries (more i) (empty_table (beyond.0 i));
      lent = record { loan = c.settle.ensures.loan; beyond = beyond };
    }
