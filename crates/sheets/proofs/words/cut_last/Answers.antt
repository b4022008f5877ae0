use Rattle.std.proofs.Common.{rules}
use Rattle.sheets.proofs.Cutting.{parted_at, none_at, none_behind}
use Rattle.sheets.proofs.words.cut_last.Goals as goal
use Rattle.std.proofs.lemmas.List.{take_rest}

pub returns-in_err-at : goal.returns-in_err-at
returns-in_err-at c = rw c.from_residual.ensures (none_at c.args.byte c.args.bytes.now (search rules))

pub returns : goal.returns
returns c =
    let t = c.args.bytes.now in
    let at = c.in_ok-at.at in
    rw take_rest (parted_at c.args.byte t at (search rules) (search rules), none_behind c.args.byte t at (search rules))
