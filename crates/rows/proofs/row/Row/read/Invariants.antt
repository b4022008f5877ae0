use Rattle.std.proofs.Common.{◌≡◌, ℕ, ◌+◌, ◌<◌, ◌≤◌, length, get_or}
use Rattle.rows.proofs.row.Row.read.Given as goal
use Rattle.rows.specs.Text.{named}

abbrev pub invariant-loop-p : goal.invariant-loop-p
invariant-loop-p l = (length l.bells ≡ 12) × ((k : ℕ) → k < l.p → get_or l.bells k 0 ≡ named (get_or l.text k 0)) × ((k : ℕ) → l.p ≤ k → k < 12 → get_or l.bells k 0 ≡ k + 1)
