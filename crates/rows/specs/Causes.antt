-- The number of each refusal. None has a value.
use Rattle.causes.specs.declared.Cause.{Cause}
use Rattle.causes.specs.declared.Values.TheVariants.{None}
use Rattle.rows.specs.declared.fault.RowFault.{RowFault}
use Rattle.rows.specs.declared.fault.RowFault.TheVariants.{Stage, Row}

abbrev pub cause : RowFault → Cause
cause Stage = record { number = 1; values = None }
cause Row = record { number = 28; values = None }
