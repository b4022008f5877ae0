use Rattle.std.proofs.Common.{refl}
use Rattle.forms.proofs.Storing.{right_on}
use Rattle.forms.proofs.list.Forms.add_method.Goals as goal

pub returns-then-is_full-clause-answer : goal.returns-then-is_full-clause-answer
returns-then-is_full-clause-answer g c = (refl, (c.if-not-takes_method.ensures.0 refl, c.if-is_full.ensures))

pub store-requires-clause-staged : goal.store-requires-clause-staged
store-requires-clause-staged g c = right_on _ _ _ c.in_ok-changes.ensures.means
