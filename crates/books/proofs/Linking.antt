-- Each lead begins with the head that comes next behind the leads before it, so that every row of the leads is a row on the stage.
use Rattle.std.proofs.Common.{◌≡◌, ℕ, zero, suc, ◌+◌, ◌*◌, ◌<◌, ◌≤◌, List, [], ◌∷◌, ◌++◌, length, get_or, take, sym, refl, ap, ◌∙◌, subst, ⊎_elim, All, arith}
use Rattle.books.specs.Forms.{shape, shapes, lead, leads_in, FormsKnown}
use Rattle.books.specs.Leads.{Shape, Lead, shape_at, next_head, rows_of_lead, rows_of, new_rows, Linked}
use Rattle.books.specs.Theorems.{Sound}
use Rattle.books.specs.declared.lead.Lead.{Lead as LeadValue}
use Rattle.books.proofs.Repeating.{Rightly, rounds_row}
use Rattle.books.proofs.Sounding.{ShapeOn}
use Rattle.forms.specs.declared.form.Form.{Form}
use Rattle.rows.proofs.Group.{times_row, times_on, rounds_on}
use Rattle.rows.proofs.Members.{member}
use Rattle.rows.specs.Rows.{times, RowOf, On}
use Rattle.std.proofs.lemmas.List.{append-nil, get_or_append_left, get_or_push, length-append, length-map, length_push, take-append-le, take_all, take_at, take_more}
use Rattle.std.proofs.lemmas.Bool.{cases_lt}
use Rattle.std.proofs.lemmas.Grind.{flat_map-append}
use Rattle.std.proofs.lemmas.List.Elements.{All-nil, All-head, All-tail, All-append, All-map, All-get_or, All-from_get_or}

-- what is read past the last lead
abbrev none : Lead
none = record { form = 0; head = [] }

-- the last lead alone gives the next head
pub next_push : (forms : List Shape) (ls : List Lead) (l : Lead) → next_head forms (ls ++ l ∷ []) ≡ times l.head (shape_at forms l.form).turn
next_push forms [] l = refl
next_push forms (k ∷ []) l = refl
next_push forms (k ∷ (m ∷ ls)) l = next_push forms (m ∷ ls) l

-- the rows of the last lead come last
pub rows_push : (forms : List Shape) (ls : List Lead) (l : Lead) → rows_of forms (ls ++ l ∷ []) ≡ rows_of forms ls ++ rows_of_lead forms l
rows_push forms ls l = flat_map-append (rows_of_lead forms) ls (l ∷ []) ∙ ap (λ r. rows_of forms ls ++ r) (append-nil (rows_of_lead forms l))

-- a new lead begins with the next head
pub linked_push : (forms : List Shape) (ls : List Lead) (l : Lead) → Linked forms ls → l.head ≡ next_head forms ls → Linked forms (ls ++ l ∷ [])
linked_push forms ls l h e k m =
    ⊎_elim
    (λ b. ap (λ (x : Lead). x.head) (get_or_append_left ls (l ∷ []) none k b) ∙ h k b ∙ ap (next_head forms) (sym (take-append-le k ls (l ∷ []) (omega arith))))
    (λ b.
    let is : length ls ≡ k = omega (arith, length_push ls l) in
    ap (λ (x : Lead). x.head) (get_or_push ls l none k is) ∙ e ∙ ap (next_head forms) (sym (take_at ls (l ∷ []) k is)))
    (cases_lt k (length ls))

-- and so does every lead of a front
pub linked_front : (forms : List Shape) (ls : List Lead) (l : Lead) → Linked forms (ls ++ l ∷ []) → Linked forms ls
linked_front forms ls l h k b =
    ap (λ (x : Lead). x.head) (sym (get_or_append_left ls (l ∷ []) none k b)) ∙ h k (omega (arith, length_push ls l)) ∙ ap (next_head forms) (take-append-le k ls (l ∷ []) (omega arith))

-- the last lead's head came next before it was rung
pub linked_last : (forms : List Shape) (ls : List Lead) (l : Lead) → Linked forms (ls ++ l ∷ []) → l.head ≡ next_head forms ls
linked_last forms ls l h =
    ap (λ (x : Lead). x.head) (sym (get_or_push ls l none (length ls) refl)) ∙ h (length ls) (omega (arith, length_push ls l)) ∙ ap (next_head forms) (take_at ls (l ∷ []) (length ls) refl)

-- leads of known forms have forms of the list, and rows for heads by their type
pub known_rightly : (fs : List Form) (ls : List LeadValue) → FormsKnown (length fs) ls → All (Rightly (shapes fs)) (leads_in ls)
known_rightly fs ls h = All-map (Rightly (shapes fs)) lead ls (λ k d l. (let known = h k d l in omega (arith, length-map fs shape), (get_or ls k d).head.once))

-- a row on n bells
abbrev pub Staged : ℕ → List ℕ → Type 0
Staged n x = RowOf 12 x × On n x

module _ (n : ℕ) (forms : List Shape) (sound : Sound forms) (on : (k : ℕ) → k < length forms → ShapeOn n (shape_at forms k)) (short : (k : ℕ) → k < length forms → length (shape_at forms k).rows ≤ 64) where
  -- a head × a turn is a row on the stage, so that all heads are, one after the other
  next_staged_at : (ls : List Lead) → All (Rightly forms) ls → Linked forms ls → (k : ℕ) → k ≤ length ls → Staged n (next_head forms (take k ls))
  next_staged_at ls r h zero l = (rounds_row, rounds_on n)
  next_staged_at ls r h (suc k) l =
      let one : k + 1 ≡ suc k = omega arith in
      let x = get_or ls k none in
      let before = next_staged_at ls r h k (omega arith) in
      let known : x.form < length forms = (All-get_or (Rightly forms) ls k none (omega arith) r).0 in
      let head : x.head ≡ next_head forms (take k ls) = h k (omega arith) in
      let turn = (sound x.form known).turn_is in
      let is : next_head forms (take (suc k) ls) ≡ times (next_head forms (take k ls)) (shape_at forms x.form).turn =
      ap (λ m. next_head forms (take m ls)) (sym one) ∙ ap (next_head forms) (take_more ls k none (omega arith)) ∙ next_push forms (take k ls) x ∙ ap (λ a. times a (shape_at forms x.form).turn) head in
      subst (Staged n) (sym is) (
        times_row 12 (next_head forms (take k ls)) (shape_at forms x.form).turn before.0 turn,
        times_on n (next_head forms (take k ls)) (shape_at forms x.form).turn (member 12 (shape_at forms x.form).turn turn).long before.1 (on x.form known).turn_on,
      )

  -- the next head is a row on the stage
  pub next_staged : (ls : List Lead) → All (Rightly forms) ls → Linked forms ls → Staged n (next_head forms ls)
  next_staged ls r h = subst (λ m. Staged n (next_head forms m)) (take_all (length ls) ls (omega arith)) (next_staged_at ls r h (length ls) (omega arith))

  -- a lead that begins on the stage stays there
  pub lead_staged : (h : List ℕ) (f : ℕ) → Staged n h → f < length forms → All (Staged n) (rows_of_lead forms (record { form = f; head = h }))
  lead_staged h f s l =
      let rows = (shape_at forms f).rows in
      All-map (Staged n) (times h) rows (All-from_get_or (λ x. Staged n (times h x)) rows [] (λ i m.
      let r = (sound f l).rows_are i m in
      (times_row 12 h (get_or rows i []) s.0 r, times_on n h (get_or rows i []) (member 12 (get_or rows i []) r).long s.1 ((on f l).rows_on i m))))

  -- each lead from its head on
  rows_staged_from : (ls : List Lead) → All (Rightly forms) ls → ((k : ℕ) → k < length ls → On n (get_or ls k none).head) → All (Staged n) (rows_of forms ls)
  rows_staged_from [] r h = All-nil (Staged n)
  rows_staged_from (l ∷ ls) r h =
      let first = All-head (Rightly forms) l ls r in
      All-append (Staged n) (rows_of_lead forms l) (rows_of forms ls) (lead_staged l.head l.form (first.1, h 0 (omega arith)) first.0) (rows_staged_from ls (All-tail (Rightly forms) l ls r) (λ k m. h (suc k) (omega arith)))

  -- all rows of the leads are rows on the stage
  pub rows_staged : (ls : List Lead) → All (Rightly forms) ls → Linked forms ls → All (Staged n) (rows_of forms ls)
  rows_staged ls r h = rows_staged_from ls r (λ k m. subst (On n) (sym (h k m)) (next_staged_at ls r h k (omega arith)).1)

  -- so many leads have at most 64 times as many rows
  pub rows_few : (ls : List Lead) → All (Rightly forms) ls → length (rows_of forms ls) ≤ 64 * length ls
  rows_few [] r = omega arith
  rows_few (l ∷ ls) r =
      omega (arith, length-append (rows_of_lead forms l) (rows_of forms ls), length-map (shape_at forms l.form).rows (times l.head), short l.form (All-head (Rightly forms) l ls r).0, rows_few ls (All-tail (Rightly forms) l ls r))

  -- and a new lead at most 64
  pub new_few : (ls : List Lead) (f : ℕ) → f < length forms → length (new_rows forms ls f) ≤ 64
  new_few ls f l = omega (arith, length-map (shape_at forms f).rows (times (next_head forms ls)), short f l)
