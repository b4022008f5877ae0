use Rattle.std.proofs.Common.{◌≡◌, ℕ, ◌+◌, ◌<◌, length, get_or}
use Rattle.rows.proofs.row.Row.inverse.Given as goal
use Rattle.rows.specs.Rows.{bell_in}

abbrev pub invariant-loop-p : goal.invariant-loop-p
invariant-loop-p l = (length l.bells ≡ 12) × ((k : ℕ) → k < l.p → bell_in l.bells (get_or l.self.bells k 0) ≡ k + 1)
