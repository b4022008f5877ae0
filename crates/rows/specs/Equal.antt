-- Rows are equal where their bells are.
use Rattle.std.specs.Prelude.{◌≡◌, Bool, Decides, refl}
use Rattle.std.specs.Str.{bytes_eq}
use Rattle.std.proofs.lemmas.Slice.Eq.{bytes_eq-Decides}
use Rattle.rows.specs.contracts.row.RowPartialEq.TheImpl as row_eq
use Rattle.rows.specs.declared.row.Row.{Row}

-- what `==` says of two rows
abbrev pub equal : Row → Row → Bool
equal = (row_eq.ghosts).eq

pub equal-bytes : (a b : Row) → equal a b ≡ bytes_eq a.bells b.bells
equal-bytes a b = refl

pub equal-Decides : (a b : Row) → Decides (equal a b) (a.bells ≡ b.bells)
equal-Decides a b = bytes_eq-Decides a.bells b.bells
