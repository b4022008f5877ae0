use Rattle.std.proofs.Common.{sym, ◌∙◌}
use Rattle.registers.proofs.Settling.{mark_beyond, mark_free, mark_taken}
use Rattle.registers.proofs.rank.rank_table.RankTable.mark_of.Goals as goal
use Rattle.registers.specs.Shelves.{table_shelf}

pub returns-in_err-cell : goal.returns-in_err-cell
unfolding table_shelf
returns-in_err-cell g c = c.from_residual.ensures ∙ sym (mark_beyond _ _ _ _ c.args.self.now.linked c.args.code c.in_err-cell.ensures)

pub returns-in-Free : goal.returns-in-Free
unfolding table_shelf
returns-in-Free g c = sym (mark_free _ _ _ _ c.args.self.now.linked c.args.code c.in_ok-cell.cell c.in_ok-cell.ensures.1 c.in-Free.is)

pub returns-in_default : goal.returns-in_default
unfolding table_shelf
returns-in_default g c =
    let table = c.args.self.now in
    sym (mark_taken _ _ _ _ table.linked table.kept c.args.code c.in_ok-cell.cell c.in_ok-cell.ensures.0 c.in_ok-cell.ensures.1 c.in_default.not-Free)
