-- Keys with equal codes are equal.
use Rattle.std.specs.Prelude.{◌≡◌, ℕ, ◌+◌, ◌*◌, ◌<◌, ◌≤◌, true}
use Rattle.std.proofs.Math.Bool.{Bool-set}
use mathlib.Core.HLevel.{is_prop→PathP}
use Rattle.std.proofs.Math.Bridge.{le_prop}
use Rattle.std.proofs.Common.{arith}
use Rattle.registers.specs.Keys.{clash_code}
use Rattle.registers.specs.declared.clash.ClashKey.{ClashKey}
use Rattle.rows.proofs.Codes.{code_small}
use Rattle.rows.proofs.Digits.{row_only}
use Rattle.rows.specs.Code.{code, fact}
use Rattle.rows.specs.Rows.{is_row, On}
use Rattle.rows.specs.declared.row.Row.{Row}

-- a row is its bells: that they stand once each is one fact
pub row_by_bells : (x y : Row) → x.bells ≡ y.bells → x ≡ y
row_by_bells x y e = λ i. record { bells = e i; once = is_prop→PathP (λ k. is_row 12 (e k) ≡ true) (λ k. Bool-set _ _) x.once y.once i }

-- rows with equal codes have equal bells
pub row_apart : (x y : Row) → code x.bells ≡ code y.bells → x ≡ y
row_apart x y e = row_by_bells x y (row_only 12 x.bells y.bells x.once y.once e)

-- two numbers below 16 and one more are determined by what they give together
digits_apart : (a b p q r s : ℕ) → p < 16 → q < 16 → r < 16 → s < 16 → a * 256 + 16 * p + q ≡ b * 256 + 16 * r + s → (a ≡ b) × ((p ≡ r) × (q ≡ s))
digits_apart a b p q r s p16 q16 r16 s16 e = (omega arith, (omega arith, omega arith))

-- clash keys with equal codes have equal rows and form numbers
pub clash_apart : (x y : ClashKey) → clash_code x ≡ clash_code y → x ≡ y
clash_apart x y e =
    let d = digits_apart (code x.row.bells) (code y.row.bells) x.first x.second y.first y.second x.few x.small y.few y.small e in
    λ i. record {
      first = d.1.0 i;
      second = d.1.1 i;
      row = row_apart x.row y.row d.0 i;
      few = is_prop→PathP (λ k. d.1.0 k < 16) (λ k. le_prop) x.few y.few i;
      small = is_prop→PathP (λ k. d.1.1 k < 16) (λ k. le_prop) x.small y.small i;
    }

-- the code of a clash key whose row is on n bells
pub clash_small : (n : ℕ) (key : ClashKey) → n ≤ 12 → On n key.row.bells → clash_code key < 256 * fact n
clash_small n key l on = omega (arith, code_small n key.row.bells key.row.once on l)
