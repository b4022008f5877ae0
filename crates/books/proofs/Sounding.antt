-- The forms of a list have rows throughout, none of them twice in a lead, and stay on the stage.
use Rattle.std.proofs.Common.{◌≡◌, ℕ, zero, suc, ◌<◌, ◌≤◌, Bool, List, [], ◌∷◌, length, get_or, sym, ◌∙◌, subst, arith}
use Rattle.books.specs.Forms.{shape_of, shape, shapes}
use Rattle.books.specs.Leads.{Shape, shape_at}
use Rattle.books.specs.Theorems.{SoundShape, Sound}
use Rattle.books.proofs.Repeating.{rounds_row}
use Rattle.forms.proofs.Leading.{rows_long}
use Rattle.forms.specs.Leads.{rows_from, lead_rows, ChangesOn}
use Rattle.forms.specs.Staged.{FormsOn}
use Rattle.forms.specs.declared.form.Form.{Form}
use Rattle.notation.proofs.Drafting.{listed_long}
use Rattle.notation.proofs.Effects.{rung_row, rung_on}
use Rattle.notation.specs.Changes.{ChangeOn, rung}
use Rattle.notation.specs.Drafts.{listed}
use Rattle.rows.proofs.Group.{rounds_on}
use Rattle.rows.specs.Rows.{rounds, RowOf, On}
use Rattle.std.proofs.lemmas.List.Elements.{All-head, All-tail}
use Rattle.std.proofs.lemmas.List.{get_or-take, length-take-le}

-- a change rung on a row gives a row
from_row : (cs : List (List Bool)) (r : List ℕ) → RowOf 12 r → (j : ℕ) → j ≤ length cs → RowOf 12 (get_or (rows_from cs r) j [])
unfolding rows_from
from_row [] r h zero l = h
from_row [] r h (suc j) l = absurd (omega arith)
from_row (c ∷ cs) r h zero l = h
from_row (c ∷ cs) r h (suc j) l = from_row cs (rung c r) (rung_row 12 c r h) j (omega arith)

-- and keeps a row on the stage
from_on : (n : ℕ) (cs : List (List Bool)) (r : List ℕ) → ChangesOn n cs → On n r → (j : ℕ) → j ≤ length cs → On n (get_or (rows_from cs r) j [])
unfolding rows_from
from_on n [] r c h zero l = h
from_on n [] r c h (suc j) l = absurd (omega arith)
from_on n (d ∷ cs) r c h zero l = h
from_on n (d ∷ cs) r c h (suc j) l = from_on n cs (rung d r) (All-tail (ChangeOn n) d cs c) (rung_on n d r (All-head (ChangeOn n) d cs c) h) j (omega arith)

-- one row for each change
shape_size : (cs : List (List Bool)) → length (shape_of cs).rows ≡ length cs
shape_size cs = length-take-le (length cs) (lead_rows cs) (omega (arith, rows_long cs (rounds 12)))

-- as many rows as the form counts changes
pub shape_long : (f : Form) → length (shape f).rows ≡ f.changes.count
shape_long f = shape_size (listed f.changes) ∙ listed_long f.changes

-- rows from rounds on are rows, and the form's own fact keeps them apart
shape_sound : (f : Form) → SoundShape (shape f)
shape_sound f =
    let cs : List (List Bool) = listed f.changes in
    let size = shape_size cs in
    record {
      rows_are = λ i l. subst (RowOf 12) (sym (get_or-take (length cs) (lead_rows cs) i [] (omega arith))) (from_row cs (rounds 12) rounds_row i (omega arith));
      turn_is = from_row cs (rounds 12) rounds_row (length cs) (omega arith);
      no_repeat = λ i j l m e. f.apart j i (omega arith) l (sym (get_or-take (length cs) (lead_rows cs) i [] (omega arith)) ∙ e ∙ get_or-take (length cs) (lead_rows cs) j [] (omega arith));
    }

-- a shape whose rows and turn are on n bells
pub record ShapeOn (n : ℕ) (s : Shape) : Type 0 where
  pub rows_on : (i : ℕ) → i < length s.rows → On n (get_or s.rows i [])
  pub turn_on : On n s.turn

-- covers stay through the whole lead
shape_stays : (n : ℕ) (f : Form) → ChangesOn n (listed f.changes) → ShapeOn n (shape f)
shape_stays n f h =
    let cs : List (List Bool) = listed f.changes in
    let size = shape_size cs in
    record {
      rows_on = λ i l. subst (On n) (sym (get_or-take (length cs) (lead_rows cs) i [] (omega arith))) (from_on n cs (rounds 12) h (rounds_on n) i (omega arith));
      turn_on = from_on n cs (rounds 12) h (rounds_on n) (length cs) (omega arith);
    }

-- what holds of the shape of every form holds of every shape of a list
shapes_each : (P : Shape → Type 0) → ((f : Form) → P (shape f)) → (fs : List Form) (k : ℕ) → k < length (shapes fs) → P (shape_at (shapes fs) k)
shapes_each P h [] k l = absurd (omega arith)
shapes_each P h (f ∷ fs) zero l = h f
shapes_each P h (f ∷ fs) (suc k) l = shapes_each P h fs k (omega arith)

-- every form of a list is sound
pub shapes_sound : (fs : List Form) → Sound (shapes fs)
shapes_sound fs = shapes_each SoundShape shape_sound fs

-- no lead has more than 64 rows
pub shapes_short : (fs : List Form) (k : ℕ) → k < length (shapes fs) → length (shape_at (shapes fs) k).rows ≤ 64
shapes_short fs = shapes_each (λ s. length s.rows ≤ 64) (λ f. let few = f.changes.few in omega (arith, shape_long f)) fs

-- the forms of a staged list stay on its stage
pub shapes_on : (n : ℕ) (fs : List Form) → FormsOn n fs → (k : ℕ) → k < length (shapes fs) → ShapeOn n (shape_at (shapes fs) k)
shapes_on n [] h k l = absurd (omega arith)
shapes_on n (f ∷ fs) h zero l = shape_stays n f (h 0 f (omega arith))
shapes_on n (f ∷ fs) h (suc k) l = shapes_on n fs (λ i d m. h (suc i) d (omega arith)) k (omega arith)
