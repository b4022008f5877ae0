use Rattle.std.proofs.Common.{refl}
use Rattle.forms.proofs.Examples.{examples}
use Rattle.forms.proofs.worked.worked_examples_hold.Goals as goal

pub returns : goal.returns
returns c = (refl, examples)
