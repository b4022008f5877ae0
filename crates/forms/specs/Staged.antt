-- A list of forms on a stage.
use Rattle.std.specs.Prelude.{ℕ, List, All}
use Rattle.forms.specs.Leads.{ChangesOn}
use Rattle.forms.specs.declared.form.Form.{Form}
use Rattle.notation.specs.Drafts.{listed}

-- every form has changes on n bells
abbrev pub FormsOn : ℕ → List Form → Type 0
FormsOn n fs = All (λ (f : Form). ChangesOn n (listed f.changes)) fs
