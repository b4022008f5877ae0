use Rattle.std.proofs.Common.{◌≡◌, length, take}
use Rattle.rows.specs.Rows.{On}
use Rattle.rows.proofs.Decoding.{decoded, left}
use Rattle.rows.proofs.row.Row.of_code.Given as goal

abbrev pub invariant-loop-at : goal.invariant-loop-at
invariant-loop-at l =
    record { long : length l.bells ≡ 12; front : take l.at l.bells ≡ decoded l.at l.code; rest : l.rest ≡ left l.at l.code; covers : On l.at l.bells }
