use Rattle.std.proofs.Common.{refl}
use Rattle.lead.proofs.Saying.{method_none}
use Rattle.lead.proofs.command.method.Goals as goal
use Rattle.sheets.proofs.Parting.{parted}

pub returns-in_err-letter : goal.returns-in_err-letter
returns-in_err-letter c = rw c.from_residual.ensures (method_none c.args.arguments.now c.in_err-letter.ensures)

pub returns : goal.returns
returns c =
    let cut = parted c.in_ok-letter.ensures in
    (c.single-letter.result, c.in_ok-letter.notation, refl, (c.in_ok-letter.letter.now, cut.lacks, cut.whole, c.single-letter.ensures))
