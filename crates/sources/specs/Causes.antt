-- The number of the refusal. It has no value.
use Rattle.causes.specs.declared.Cause.{Cause}
use Rattle.causes.specs.declared.Values.TheVariants.{None}
use Rattle.sources.specs.declared.fault.SourceFault.{SourceFault}
use Rattle.sources.specs.declared.fault.SourceFault.TheVariants.{Times}

abbrev pub cause : SourceFault → Cause
cause Times = record { number = 23; values = None }
