-- The number and the value of each fault of a notation.
use Rattle.std.specs.Prelude.{ℕ}
use Rattle.causes.specs.declared.Cause.{Cause}
use Rattle.causes.specs.declared.Values.TheVariants.{One}
use Rattle.notation.specs.declared.fault.Fault.{Fault}
use Rattle.notation.specs.declared.fault.Fault.TheVariants.{Byte, Early, Places, Unrung, Many}

abbrev pub cause : Fault → Cause
cause (Byte k) = record { number = 2; values = One k }
cause (Early k) = record { number = 2; values = One k }
cause (Places p) = record { number = 3; values = One p }
cause (Unrung p) = record { number = 4; values = One p }
cause (Many s) = record { number = 5; values = One s }

abbrev pub number : Fault → ℕ
number f = (cause f).number
