use Rattle.notation.proofs.Answered.{Underway}
use Rattle.notation.proofs.reader.read.Given as goal

abbrev pub invariant-loop-token : goal.invariant-loop-token
invariant-loop-token l = Underway l.fn.stage.bells l.text l.token-iterator l.draft
