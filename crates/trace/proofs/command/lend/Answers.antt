use Rattle.std.proofs.Common.{refl}
use Rattle.sheets.proofs.Parting.{parted}
use Rattle.trace.proofs.Saying.{lend_none, lend_first, lend_second}
use Rattle.trace.proofs.command.lend.Goals as goal

pub returns-in_err-first : goal.returns-in_err-first
returns-in_err-first c = rw c.from_residual.ensures (lend_none c.args.arguments.now c.in_err-first.ensures)

pub returns-in_err-nodes : goal.returns-in_err-nodes
returns-in_err-nodes c = rw c.from_residual-in_err-nodes.ensures (lend_first c.in_ok-first.ensures c.in_err-nodes.ensures)

pub returns-in_err-cells : goal.returns-in_err-cells
returns-in_err-cells c = rw c.from_residual-in_err-cells.ensures (lend_second c.in_ok-first.ensures c.in_err-cells.ensures)

pub returns : goal.returns
returns c =
    let cut = parted c.in_ok-first.ensures in
    (c.in_ok-nodes.nodes, c.in_ok-cells.cells, refl, (c.in_ok-first.first.now, c.in_ok-first.second.now, cut.lacks, cut.whole, c.in_ok-nodes.ensures, c.in_ok-cells.ensures))
