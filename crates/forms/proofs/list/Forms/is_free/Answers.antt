use Rattle.forms.proofs.Taking.{free}
use Rattle.forms.proofs.list.Forms.is_free.Goals as goal

pub returns : goal.returns
returns g c = free _ _ _ _ _ c.is_none.ensures c.number_of.ensures
