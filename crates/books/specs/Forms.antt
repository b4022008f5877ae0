-- Forms and leads as the law sees them.
use Rattle.std.specs.Prelude.{ℕ, ◌<◌, Bool, List, map, length, take, All}
use Rattle.books.specs.Leads.{Shape, Lead}
use Rattle.books.specs.declared.lead.Lead.{Lead as LeadValue}
use Rattle.forms.specs.Leads.{lead_rows, turn}
use Rattle.forms.specs.declared.form.Form.{Form}
use Rattle.notation.specs.Drafts.{listed}

-- the rows and the turn that changes ring
abbrev pub shape_of : List (List Bool) → Shape
shape_of cs = record { rows = take (length cs) (lead_rows cs); turn = turn cs }

abbrev pub shape : Form → Shape
shape f = shape_of (listed f.changes)

abbrev pub shapes : List Form → List Shape
shapes fs = map shape fs

abbrev pub lead : LeadValue → Lead
lead l = record { form = l.form; head = l.head.bells }

abbrev pub leads_in : List LeadValue → List Lead
leads_in ls = map lead ls

-- every lead has a form of the list
abbrev pub FormsKnown : ℕ → List LeadValue → Type 0
FormsKnown n ls = All (λ (l : LeadValue). l.form < n) ls
