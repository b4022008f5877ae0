-- The number and the values of each refusal of a form; a fault of its notation keeps its own.
use Rattle.causes.specs.declared.Cause.{Cause}
use Rattle.causes.specs.declared.Values.TheVariants.{None, Two}
use Rattle.forms.specs.declared.fault.FormFault.{FormFault}
use Rattle.forms.specs.declared.fault.FormFault.TheVariants.{Letter, Full, Notation, Ending, Repeat}
use Rattle.notation.specs.Causes as notation

abbrev pub cause : FormFault → Cause
cause Letter = record { number = 6; values = None }
cause Full = record { number = 7; values = None }
cause (Notation fault) = notation.cause fault
cause Ending = record { number = 8; values = None }
cause (Repeat j i) = record { number = 9; values = Two j i }
