-- The code of a clash key.
use Rattle.std.specs.Prelude.{ℕ, ◌+◌, ◌*◌, ◌≤◌, ◌⊎◌}
use Rattle.registers.specs.declared.clash.ClashKey.{ClashKey}
use Rattle.rows.specs.Code.{code}

-- two form numbers below 16 and a row
abbrev pub clash_code : ClashKey → ℕ
clash_code key = code key.row.bells * 256 + 16 * key.first + key.second

-- not both are numbers of forms
abbrev pub OutOfSixteen : ℕ → ℕ → Type 0
OutOfSixteen p q = (16 ≤ p) ⊎ (16 ≤ q)
