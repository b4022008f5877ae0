-- Adding a form to a list: when it is taken, and what each refusal says. The checks come in the order letter and mark, room, notation,
-- length of the ending, repeated row.
use Rattle.std.specs.Prelude.{◌≡◌, ℕ, ◌-◌, ◌<◌, ◌≤◌, Bool, List, [], ◌∷◌, ◌++◌, length, take, Ok, Err, vec_items, Result, ◌≢◌, MatchResult}
use Rattle.forms.specs.Leads.{FirstRepeat, NoRepeat}
use Rattle.forms.specs.declared.fault.FormFault.{FormFault}
use Rattle.forms.specs.declared.fault.FormFault.TheVariants.{Letter, Full, Notation, Ending, Repeat}
use Rattle.forms.specs.declared.form.Form.{Form}
use Rattle.forms.specs.declared.form.Mark.{Mark}
use Rattle.forms.specs.declared.form.Mark.TheVariants.{Plain, Bob, Single}
use Rattle.forms.specs.declared.list.Closed.{Closed}
use Rattle.forms.specs.declared.list.Forms.{Forms}
use Rattle.notation.specs.Drafts.{listed}
use Rattle.notation.specs.Faults.{First, Right}
use Rattle.rows.specs.declared.stage.Stage.{Stage}
use Rattle.std.specs.List.{ContainsAt as Has, HoldsAt}

-- how a mark is written: `.`, `-` and `s`
abbrev pub mark_byte : Mark → ℕ
mark_byte Plain = 46
mark_byte Bob = 45
mark_byte Single = 115

-- the mark of a call that a byte writes, or the refusal of a byte that writes none
abbrev pub CallMark : ℕ → Result Mark FormFault → Type 0
CallMark byte r = MatchResult r (λ m. (mark_byte m ≡ byte) × (m ≢ Plain)) (λ e. (e ≡ Letter) × (byte ≢ 45) × (byte ≢ 115))

-- the list has this form, and it has this letter and mark
abbrev pub FormWith : List Form → ℕ → Mark → Form → Type 0
FormWith fs letter m f = Has fs f × (f.letter ≡ letter) × (f.mark ≡ m)

abbrev pub NoForm : List Form → ℕ → Mark → Type 0
NoForm fs letter m = (f : Form) → FormWith fs letter m f → ⊥

-- the form with number k has this letter and mark
abbrev pub FormAt : List Form → ℕ → Mark → ℕ → Type 0
FormAt fs letter m k = (k < length fs) × HoldsAt (λ (f : Form). (f.letter ≡ letter) × (f.mark ≡ m)) fs k

-- a form with this letter, mark and changes stands at the end of the list
abbrev pub Added : List Form → List Form → ℕ → Mark → List (List Bool) → Type 0
Added fs fs' letter m cs = (f : Form) × (fs' ≡ fs ++ f ∷ []) × (f.letter ≡ letter) × (f.mark ≡ m) × (listed f.changes ≡ cs)

-- a method may have a letter from A to Z that no method has
abbrev pub MayMethod : List Form → ℕ → Type 0
MayMethod fs letter = (65 ≤ letter) × (letter ≤ 90) × NoForm fs letter Plain

abbrev pub MethodFault : ℕ → List Form → ℕ → List ℕ → FormFault → Type 0
MethodFault n fs letter t Letter = MayMethod fs letter → ⊥
MethodFault n fs letter t Full = MayMethod fs letter × (16 ≤ length fs)
MethodFault n fs letter t (Notation g) = MayMethod fs letter × (length fs < 16) × First n t g
MethodFault n fs letter t Ending = ⊥
MethodFault n fs letter t (Repeat j i) = MayMethod fs letter × (length fs < 16) × ((cs : List (List Bool)) × Right n t cs × FirstRepeat cs j i)

-- what adding a method with this letter and notation answers, and the forms that then stand
abbrev pub AddsMethod : ℕ → List Form → List Form → ℕ → List ℕ → Result ℕ FormFault → Type 0
AddsMethod n fs fs' letter t (Ok k) =
    (k ≡ length fs) × MayMethod fs letter × (length fs < 16) × ((cs : List (List Bool)) × Right n t cs × NoRepeat cs × Added fs fs' letter Plain cs)
AddsMethod n fs fs' letter t (Err e) = (fs' ≡ fs) × MethodFault n fs letter t e

-- what the closed list of one method is, or why there is none
abbrev pub OfMethod : Stage → ℕ → List ℕ → Result (Forms Closed) FormFault → Type 0
OfMethod stage letter t (Ok forms) = (forms.stage ≡ stage) × AddsMethod stage.bells [] (vec_items forms.list) letter t (Ok 0)
OfMethod stage letter t (Err e) = MethodFault stage.bells [] letter t e

-- a call may have the letter of a method, here f, and a mark other than `.` not yet used with it
abbrev pub MayCall : List Form → ℕ → ℕ → Mark → Form → Type 0
MayCall fs letter byte m f = (mark_byte m ≡ byte) × (m ≢ Plain) × FormWith fs letter Plain f × NoForm fs letter m

-- the changes of an ending replace as many at the end of the lead
abbrev pub with_end : List (List Bool) → List (List Bool) → List (List Bool)
with_end lead es = take (length lead - length es) lead ++ es

abbrev pub CallFault : ℕ → List Form → ℕ → ℕ → List ℕ → FormFault → Type 0
CallFault n fs letter byte t Letter = (m : Mark) (f : Form) → MayCall fs letter byte m f → ⊥
CallFault n fs letter byte t Full = (m : Mark) × (f : Form) × MayCall fs letter byte m f × (16 ≤ length fs)
CallFault n fs letter byte t (Notation g) = (m : Mark) × (f : Form) × MayCall fs letter byte m f × (length fs < 16) × First n t g
CallFault n fs letter byte t Ending =
    (m : Mark) × (f : Form) × MayCall fs letter byte m f × (length fs < 16) × ((es : List (List Bool)) × Right n t es × (length (listed f.changes) < length es))
CallFault n fs letter byte t (Repeat j i) =
    (m : Mark) × (f : Form) × MayCall fs letter byte m f × (length fs < 16)
    × ((es : List (List Bool)) × Right n t es × (length es ≤ length (listed f.changes)) × FirstRepeat (with_end (listed f.changes) es) j i)

-- what adding a call with this letter, mark and notation answers, and the forms that then stand
abbrev pub AddsCall : ℕ → List Form → List Form → ℕ → ℕ → List ℕ → Result ℕ FormFault → Type 0
AddsCall n fs fs' letter byte t (Ok k) =
    (k ≡ length fs) × (length fs < 16) × ((m : Mark) × (f : Form) × (es : List (List Bool)) × MayCall fs letter byte m f × Right n t es × (length es ≤ length (listed f.changes))
    × NoRepeat (with_end (listed f.changes) es) × Added fs fs' letter m (with_end (listed f.changes) es))
AddsCall n fs fs' letter byte t (Err e) = (fs' ≡ fs) × CallFault n fs letter byte t e

-- what storing a form with these changes answers: its number, or the row that it repeats
abbrev pub Stores : List Form → List Form → ℕ → Mark → List (List Bool) → Result ℕ FormFault → Type 0
Stores fs fs' letter m cs (Ok k) = (k ≡ length fs) × NoRepeat cs × Added fs fs' letter m cs
Stores fs fs' letter m cs (Err e) = (fs' ≡ fs) × ((j : ℕ) × (i : ℕ) × (e ≡ Repeat j i) × FirstRepeat cs j i)
