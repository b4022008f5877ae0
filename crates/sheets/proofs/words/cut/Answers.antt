use Rattle.std.proofs.Common.{rules}
use Rattle.sheets.proofs.Cutting.{first_at, none_at}
use Rattle.sheets.proofs.words.cut.Goals as goal
use Rattle.std.proofs.lemmas.List.{take_rest}

pub returns-in_err-at : goal.returns-in_err-at
returns-in_err-at c = rw c.from_residual.ensures (none_at c.args.byte c.args.bytes.now (search rules))

pub returns : goal.returns
returns c =
    let first = first_at c.args.byte c.args.bytes.now c.in_ok-at.at (search rules) (search rules) (search rules) in
    record { inside = rw first (search rules); front = rw first; back = rw (first, take_rest) }
