-- Which forms a list takes, and what storing one comes to.
use Rattle.std.proofs.Common.{◌≡◌, ℕ, zero, suc, ◌<◌, ◌≤◌, Bool, List, [], ◌∷◌, length, get_or, Bor, Some, None, is_some, not, true, false, Decides, ◌≢◌, Ok, Err, Option, Result, sym, refl, ap, ◌∙◌, subst, arith, vec_items, MatchOption, MatchResult}
use Rattle.forms.specs.Adding.{mark_byte, FormWith, NoForm, FormAt, MayMethod, MethodFault, AddsMethod, MayCall, with_end, AddsCall, OfMethod, Stores}
use Rattle.forms.specs.declared.fault.FormFault.{FormFault}
use Rattle.forms.specs.declared.form.Form.{Form}
use Rattle.forms.specs.declared.form.Mark.{Mark}
use Rattle.forms.specs.declared.form.Mark.TheVariants.{Plain, Bob, Single}
use Rattle.forms.specs.declared.list.Closed.{Closed}
use Rattle.forms.specs.declared.list.Forms.{Forms}
use Rattle.notation.specs.Drafts.{listed}
use Rattle.notation.specs.Faults.{Right}
use Rattle.rows.specs.declared.stage.Stage.{Stage}
use Rattle.std.proofs.lemmas.Bool.{false≢true}
use Rattle.std.specs.Option.{ok_or}
use Rattle.std.specs.List.{AllWithin, HoldsAt}

-- a list that is long enough has an element there
element : (fs : List Form) (k : ℕ) → k < length fs → (f : Form) × ((d : Form) → get_or fs k d ≡ f)
element [] k l = absurd (omega arith)
element (f ∷ fs) zero l = (f, λ d. refl)
element (f ∷ fs) (suc k) l = element fs k (omega arith)

module _ (fs : List Form) (letter : ℕ) (m : Mark) where
  -- the form that a search finds, or that there is none
  pub numbered : (r : Option ℕ) → MatchOption r (AllWithin (λ f. (f.letter ≡ letter) × (f.mark ≡ m) → ⊥) fs 0 (length fs)) (λ k. (k < length fs) × HoldsAt (λ f. (f.letter ≡ letter) × (f.mark ≡ m)) fs k × AllWithin (λ f. (f.letter ≡ letter) × (f.mark ≡ m) → ⊥) fs 0 k)
      → MatchOption r (NoForm fs letter m) (FormAt fs letter m)
  numbered None h = λ f has. h has.0.0 f (omega arith) has.0.1 (ap (λ (x : Form). x.letter) (has.0.2 f) ∙ has.1, ap (λ (x : Form). x.mark) (has.0.2 f) ∙ has.2)
  numbered (Some k) h = (h.0, h.1)

  -- the form with this number has the letter and mark that stand there
  form_at : (k : ℕ) (f : Form) → FormAt fs letter m k → HoldsAt (λ x. x ≡ f) fs k → FormWith fs letter m f
  form_at k f there is = ((k, there.0, is), ap (λ (x : Form). x.letter) (sym (is f)) ∙ (there.1 f).0, ap (λ (x : Form). x.mark) (sym (is f)) ∙ (there.1 f).1)

  -- whether a search finds none
  pub free : (r : Option ℕ) (b : Bool) → is_some r ≡ not b → MatchOption r (NoForm fs letter m) (FormAt fs letter m) → Decides b (NoForm fs letter m)
  free None true e h = (λ _. h, λ _. refl)
  free None false e h = absurd (false≢true e)
  free (Some k) true e h = absurd (false≢true (sym e))
  free (Some k) false e h = (λ t. absurd (false≢true t), λ none. absurd (let f = element fs k h.0 in none f.0 (form_at k f.0 h f.1)))

  -- the form with a number that was found
  pub got : (k : ℕ) (r : Option (Bor Form)) → FormAt fs letter m k → MatchOption r (length fs ≤ k) (λ f. (k < length fs) × HoldsAt (λ x. f.now ≡ x) fs k) → (f : Bor Form) × (r ≡ Some f) × FormWith fs letter m f.now
  got k None there past = absurd (omega arith)
  got k (Some f) there at = (f, refl, form_at k f.now there (λ d. sym (at.1 d)))

module _ (n : ℕ) (fs fs' : List Form) (letter : ℕ) (t : List ℕ) where
  pub method_stored : (cs : List (List Bool)) (r : Result ℕ FormFault) → MayMethod fs letter → length fs < 16 → Right n t cs → Stores fs fs' letter Plain cs r → AddsMethod n fs fs' letter t r
  method_stored cs (Ok k) may room right s = (s.0, may, room, (cs, right, s.1, s.2))
  method_stored cs (Err e) may room right s =
      let repeat = s.1 in
      subst (λ x. AddsMethod n fs fs' letter t (Err x)) (sym repeat.2) (s.0, (may, room, (cs, right, repeat.3)))

  pub call_stored : (byte : ℕ) (m : Mark) (f : Form) (es cs : List (List Bool)) (r : Result ℕ FormFault) → MayCall fs letter byte m f → length fs < 16 → Right n t es → length es ≤ length (listed f.changes)
      → cs ≡ with_end (listed f.changes) es → Stores fs fs' letter m cs r → AddsCall n fs fs' letter byte t r
  call_stored byte m f es cs r may room right fits is s = stored r (subst (λ x. Stores fs fs' letter m x r) is s)
    where
      stored : (r : Result ℕ FormFault) → Stores fs fs' letter m (with_end (listed f.changes) es) r → AddsCall n fs fs' letter byte t r
      stored (Ok k) s = (s.0, room, (m, f, es, may, right, fits, s.1, s.2))
      stored (Err e) s =
          let repeat = s.1 in
          subst (λ x. AddsCall n fs fs' letter byte t (Err x)) (sym repeat.2) (s.0, (m, f, may, room, (es, right, fits, repeat.3)))

-- the closed list of a method that was added to an empty one, or the refusal of that method
pub alone : (stage begun : Stage) (fs fs' : List Form) (letter : ℕ) (t : List ℕ) (closed : Forms Closed) (added : Result ℕ FormFault) (r : Result (Forms Closed) FormFault) → begun ≡ stage → fs ≡ [] → closed.stage ≡ stage → vec_items closed.list ≡ fs'
    → AddsMethod begun.bells fs fs' letter t added → MatchResult added (λ _. r ≡ Ok closed) (λ e. r ≡ Err e) → OfMethod stage letter t r
alone stage begun fs fs' letter t closed (Err e) r here none at same told is =
    let first = subst (λ x. MethodFault begun.bells x letter t e) none told.1 in
    subst (OfMethod stage letter t) (sym is) (subst (λ (s : Stage). MethodFault s.bells [] letter t e) here first)
alone stage begun fs fs' letter t closed (Ok k) r here none at same told is =
    let numbered = subst (λ i. AddsMethod begun.bells fs fs' letter t (Ok i)) told.0 told in
    let first = subst (λ x. AddsMethod begun.bells x fs' letter t (Ok (length x))) none numbered in
    let there = subst (λ x. AddsMethod begun.bells [] x letter t (Ok 0)) (sym same) first in
    subst (OfMethod stage letter t) (sym is) (at, subst (λ (s : Stage). AddsMethod s.bells [] (vec_items closed.list) letter t (Ok 0)) here there)

-- a byte writes one mark
pub same_mark : (byte : ℕ) (m m' : Mark) → mark_byte m ≡ byte → mark_byte m' ≡ byte → m ≡ m'
same_mark byte Plain Plain e f = refl
same_mark byte Plain Bob e f = absurd (omega arith)
same_mark byte Plain Single e f = absurd (omega arith)
same_mark byte Bob Plain e f = absurd (omega arith)
same_mark byte Bob Bob e f = refl
same_mark byte Bob Single e f = absurd (omega arith)
same_mark byte Single Plain e f = absurd (omega arith)
same_mark byte Single Bob e f = absurd (omega arith)
same_mark byte Single Single e f = refl

-- the mark that was read is the only one that the byte writes
pub no_call : (fs : List Form) (letter byte : ℕ) (m : Mark) → mark_byte m ≡ byte → ((f : Form) → FormWith fs letter Plain f → NoForm fs letter m → ⊥) → (m' : Mark) (f : Form) → MayCall fs letter byte m' f → ⊥
no_call fs letter byte m is none m' f may = none f may.2 (subst (NoForm fs letter) (same_mark byte m' m may.0 is) may.3)

-- the call may be of the method that was found
pub may_call : (fs : List Form) (letter byte : ℕ) (m : Mark) (r : Option (Bor Form)) (f : Bor Form) → r ≡ Some f → (mark_byte m ≡ byte) × (m ≢ Plain)
    → MatchOption r ((f : Form) → FormWith fs letter Plain f → NoForm fs letter m → ⊥) (λ f. FormWith fs letter Plain f.now × NoForm fs letter m) → MayCall fs letter byte m f.now
may_call fs letter byte m r f is mark found = let there = rw is at found in (mark.0, mark.1, there.0, there.1)

-- the refusal where none was found
pub refused : {A : Type 0} (o : Option A) (e d : FormFault) → o ≡ None → Err d ≡ ok_or o e → d ≡ e
refused o e d none is = let r = rw none at is in cc
