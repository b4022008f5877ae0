-- The number of each refusal. None has a value.
use Rattle.causes.specs.declared.Cause.{Cause}
use Rattle.causes.specs.declared.Values.TheVariants.{None}
use Rattle.registers.specs.declared.fault.RegisterFault.{RegisterFault}
use Rattle.registers.specs.declared.fault.RegisterFault.TheVariants.{Reach, Full, Empty}

abbrev pub cause : RegisterFault → Cause
cause Reach = record { number = 10; values = None }
cause Full = record { number = 11; values = None }
cause Empty = record { number = 12; values = None }
