use Rattle.std.proofs.Common.{refl}
use Rattle.rows.proofs.Group.{rounds_on, rounds_times, times_rounds}
use Rattle.rows.proofs.Members.{member}
use Rattle.rows.proofs.row.Row.rounds.Goals as goal
use Rattle.rows.specs.Rows.{is_row}

pub invariant_of-result : goal.invariant_of-result
unfolding is_row
invariant_of-result c = record { once = refl }

pub returns : goal.returns
returns c = record {
  value = refl;
  stage = rounds_on;
  unit = λ a r. (rounds_times 12 a r, times_rounds 12 a (member 12 a r).long);
}
