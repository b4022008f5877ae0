use Rattle.std.proofs.Common.{◌∷◌, ◌++◌, refl, ap, ◌∙◌}
use Rattle.lead.proofs.Saying.{call_none, call_half}
use Rattle.lead.proofs.command.call.Goals as goal
use Rattle.sheets.proofs.Parting.{parted}

pub returns-in_err-letter : goal.returns-in_err-letter
returns-in_err-letter c = rw c.from_residual.ensures (call_none c.args.arguments.now c.in_err-letter.ensures)

pub returns-in_err-mark : goal.returns-in_err-mark
returns-in_err-mark c = rw c.from_residual-in_err-mark.ensures (call_half c.in_ok-letter.ensures c.in_err-mark.ensures)

pub returns : goal.returns
returns c =
    let letter = c.in_ok-letter.letter.now in
    let one = parted c.in_ok-letter.ensures in
    let two = parted c.in_ok-mark.ensures in (
      c.single-letter.result,
      c.single-mark.result,
      c.in_ok-mark.notation,
      refl,
      (letter, c.in_ok-mark.mark.now, one.lacks, two.lacks, one.whole ∙ ap (λ x. letter ++ 32 ∷ x) two.whole, c.single-letter.ensures, c.single-mark.ensures),
    )
