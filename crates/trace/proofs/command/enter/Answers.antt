use Rattle.trace.proofs.Saying.{enter_none, enter_unmarked}
use Rattle.trace.proofs.command.enter.Goals as goal

pub returns-in_err-key : goal.returns-in_err-key
returns-in_err-key c = rw c.from_residual.ensures (enter_none c.args.arguments.now c.in_err-key.ensures)

pub returns-in_err-mark : goal.returns-in_err-mark
returns-in_err-mark c =
    let told = c.in_ok-key.ensures in
    rw c.from_residual-in_err-mark.ensures (enter_unmarked c.args.arguments.now c.in_ok-key.key.now c.in_ok-key.last.now told.0 told.1 c.in_err-mark.ensures)
