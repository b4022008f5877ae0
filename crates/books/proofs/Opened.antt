-- A book that is just opened keeps its register.
use Rattle.std.proofs.Common.{◌≡◌, ℕ, List, [], refl, ap, ◌∙◌, not-suc-le-zero}
use Rattle.books.proofs.Fitting.{Kept}
use Rattle.books.specs.Forms.{shapes, leads_in}
use Rattle.books.specs.Leads.{rows_of, NoRepeat}
use Rattle.books.specs.Opening.{Openable}
use Rattle.books.specs.Ringing.{Holds}
use Rattle.books.specs.declared.lead.Lead.{Lead}
use Rattle.forms.specs.declared.form.Form.{Form}
use Rattle.registers.specs.Entries.{Entry, Shelf}
use Rattle.rows.specs.declared.stage.Stage.{Stage}

-- no row stands twice where none stands
none_twice : NoRepeat []
none_twice i j l h e = not-suc-le-zero h

-- an empty register holds the rows of no lead
holds_none : (fs : List Form) (ls : List Lead) (es : List Entry) → ls ≡ [] → es ≡ [] → Holds es (rows_of (shapes fs) (leads_in ls))
holds_none fs ls es l e = rw (l, e) (refl, none_twice)

-- the facts that a book keeps, carried from what it was opened with
pub kept_from : {R : Type 0} (shelf : R → Shelf) (b r : R) (fs : List Form) (ls : List Lead) (s t : Stage) (l m : ℕ) → b ≡ r → s ≡ t → l ≡ m → ls ≡ []
    → Openable t.bells m (shelf r) → Kept s.bells l (shapes fs) (leads_in ls) (shelf b)
kept_from shelf b r fs ls s t l m b_r s_t l_m none opens =
    (holds_none fs ls (shelf b).entries none (ap (λ x. (shelf x).entries) b_r ∙ opens.1), rw (b_r, s_t, l_m) opens.2)
