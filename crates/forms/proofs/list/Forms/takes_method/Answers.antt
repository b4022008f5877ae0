use Rattle.forms.proofs.list.Forms.takes_method.Goals as goal

pub returns-then-is_ascii_uppercase : goal.returns-then-is_ascii_uppercase
returns-then-is_ascii_uppercase g c =
    let range = c.if-is_ascii_uppercase.ensures.cases in
    let free = c.is_free.ensures in
    (λ t. (range.0, range.1, free.0 t), λ may. free.1 may.2)
