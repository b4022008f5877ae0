use Rattle.std.proofs.Common.{refl}
use Rattle.forms.proofs.Taking.{got}
use Rattle.forms.proofs.list.Forms.called_method.Goals as goal

pub returns-in_err-number_of : goal.returns-in_err-number_of
returns-in_err-number_of g c = rw c.from_residual.ensures (λ f method _. c.in_err-number_of.ensures f method)

pub returns : goal.returns
returns g c =
    let f = got _ _ _ _ c.form.result c.in_ok-number_of.ensures c.form.ensures in
    rw f.1 (f.2, c.if-not-is_free.ensures.0 refl)
