use Rattle.std.proofs.Common.{◌≡◌, ℕ, ◌<◌}
use Rattle.registers.specs.Cells.{cell_at}
use Rattle.registers.specs.declared.rank.cell.Link.TheVariants.{Free}
use Rattle.registers.proofs.rank.rank_table.RankTable.new.Given as goal

abbrev pub invariant-loop-cell : goal.invariant-loop-cell
invariant-loop-cell g l = (k : ℕ) → k < l.cell-index → (cell_at l.cell-items k).link ≡ Free
