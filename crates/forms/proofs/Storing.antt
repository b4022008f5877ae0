-- What a form that is stored brings along: its rows do not repeat, and its changes are on the stage.
use Rattle.std.proofs.Common.{◌≡◌, ℕ, suc, ◌-◌, ◌<◌, Bool, true, ◌||◌, ltb, List, [], ◌∷◌, map, reverse, length, get_or, take, drop, Some, None, sym, ap, ◌∙◌, subst, arith}
use Rattle.forms.proofs.Leading.{rows_long}
use Rattle.forms.specs.Adding.{with_end}
use Rattle.forms.specs.Leads.{lead_rows, row_at, FirstRepeat, NoRepeat, ChangesOn}
use Rattle.forms.specs.Repeats.{bells_of, RepeatIn}
use Rattle.forms.specs.Staged.{FormsOn}
use Rattle.forms.specs.declared.form.Form.{Form}
use Rattle.notation.specs.Changes.{places, has, made, ChangeOn}
use Rattle.notation.specs.Drafts.{listed}
use Rattle.notation.specs.Faults.{Right}
use Rattle.notation.specs.Grammar.{Sign, written, doubled, block_changes, more_changes, in_order}
use Rattle.rows.specs.Rows.{rounds}
use Rattle.rows.specs.declared.row.Row.{Row}
use Rattle.std.proofs.lemmas.List.FromFn.{get_or-map-range_with_len}
use Rattle.std.proofs.lemmas.List.{get_or-take, length-append, length-map, length-take, take-map}
use Rattle.std.proofs.lemmas.Bool.Decides.{nat_tests}
use Rattle.std.proofs.lemmas.List.Elements.{All-append, All-map, All-take}
use Rattle.std.specs.List.{ContainsAt as Has}

module _ (cs : List (List Bool)) (rows : List Row) (count : ℕ) (long : length cs ≡ count) (stand : map bells_of (take (suc count) rows) ≡ lead_rows cs) where
  -- the rows before the turn are as many as the changes
  kept : length (take count rows) ≡ count
  kept = omega (arith, length-take count rows, length-take (suc count) rows, length-map (take (suc count) rows) bells_of, ap length stand, rows_long cs (rounds 12))

  -- they are the rows of the lead
  row_read : (k : ℕ) → k < length (take count rows) → get_or (map bells_of (take count rows)) k [] ≡ row_at cs k
  row_read k l =
      let all = map bells_of rows in
      let upto : k < count = omega (arith, kept) in
      ap (λ rs. get_or rs k []) (sym (take-map bells_of count rows)) ∙ get_or-take count all k [] upto ∙ sym (get_or-take (suc count) all k [] (omega arith)) ∙ ap (λ rs. get_or rs k []) (take-map bells_of (suc count) rows ∙ stand)

  pub found_repeat : (j i : ℕ) → RepeatIn (map bells_of (take count rows)) (length (take count rows)) (Some (j, i)) → FirstRepeat cs j i
  found_repeat j i h =
      let inside = h.0 in
      let before = h.1 in
      record {
        inside = omega (arith, kept);
        before = before;
        again = sym (row_read i (omega arith)) ∙ h.2 ∙ row_read j inside;
        first = λ k e lk le same. h.3 k e lk le (row_read e (omega arith) ∙ same ∙ sym (row_read k (omega arith)));
      }

  pub no_repeat : RepeatIn (map bells_of (take count rows)) (length (take count rows)) None → NoRepeat cs
  no_repeat h j i lj li same =
      let inside : j < length (take count rows) = omega (arith, kept) in
      h j i inside li (row_read i (omega arith) ∙ same ∙ sym (row_read j inside))

-- a change that is written on n bells leaves the covers in their places
made_on : (n : ℕ) (ws : List ℕ) → ChangeOn n (made n ws)
made_on n ws p l h =
    let at = get_or-map-range_with_len (λ q. has q (places n ws) || ltb n q) 1 12 (p - 1) p true (omega arith) (omega arith) in
    grind (arith, nat_tests)

-- the changes of a notation are on its stage
pub right_on : (n : ℕ) (t : List ℕ) (cs : List (List Bool)) → Right n t cs → ChangesOn n cs
right_on n t cs r = subst (ChangesOn n) (sym r.means) (All-map (ChangeOn n) (made n) (in_order r.tree) (λ k d l. made_on n (get_or (in_order r.tree) k d)))

doubled_some : (s : Sign) (w : List ℕ) (ws : List (List ℕ)) → 0 < length (doubled s (w ∷ ws))
doubled_some Sign.none w ws = omega arith
doubled_some Sign.amp w ws = omega (arith, length-append (w ∷ ws) (drop 1 (reverse (w ∷ ws))))
doubled_some Sign.plus w ws = omega arith

-- a notation has a change
pub right_some : (n : ℕ) (t : List ℕ) (cs : List (List Bool)) → Right n t cs → 0 < length cs
right_some n t cs r =
    let tree = r.tree in
    let some = doubled_some tree.block.sign (written tree.block.first) (map written tree.block.rest) in
    let sum = length-append (block_changes tree.block) (more_changes tree.blocks) in
    omega (arith, ap length r.means, length-map (in_order tree) (made n))

-- with the end of its lead replaced, a form of the list stays on the stage
pub ending_on : (n : ℕ) (fs : List Form) (f : Form) (es cs : List (List Bool)) → Has fs f → FormsOn n fs → ChangesOn n es → cs ≡ with_end (listed f.changes) es → ChangesOn n cs
ending_on n fs f es cs here staged on is =
    let lead : List (List Bool) = listed f.changes in
    let front : List (List Bool) = take (length lead - length es) lead in
    let stays = subst (λ (x : Form). ChangesOn n (listed x.changes)) (here.2 f) (staged here.0 f here.1) in
    subst (ChangesOn n) (sym is) (All-append (ChangeOn n) front es (All-take (ChangeOn n) (length lead - length es) lead stays) on)
