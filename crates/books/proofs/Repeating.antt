-- No row stands twice among the rows of the standing leads, and every head is a row.
use Rattle.std.proofs.Common.{◌≡◌, ℕ, zero, suc, ◌-◌, ◌<◌, List, [], ◌∷◌, ◌++◌, length, get_or, take, drop, sym, refl, ap, ◌∙◌, subst, ⊎_elim, All, arith}
use Rattle.books.specs.Law.{free, playing, after, standing_from, standing, Free, Reached}
use Rattle.books.specs.Leads.{Shape, Lead, shape_at, next_head, rows_of_lead, rows_of, new_lead, new_rows, added, rung, Shares, NoRepeat}
use Rattle.books.specs.Theorems.{Sound}
use Rattle.books.specs.declared.call.Call.{Call}
use Rattle.books.specs.declared.call.Call.TheVariants.{Ring, Play, TakeBack, Verdict}
use Rattle.books.proofs.Standing.{playing_adds, playing_ends, reached_first, reached_rest}
use Rattle.books.proofs.Testing.{decides_free}
use Rattle.rows.proofs.Group.{times_row, associative, rounds_times, inverse_times}
use Rattle.rows.proofs.Members.{member}
use Rattle.rows.specs.Rows.{rounds, times, inverse, is_row, RowOf}
use Rattle.std.proofs.lemmas.List.Elements.{All-nil, All-head, All-tail, All-push, All-take}
use Rattle.std.proofs.lemmas.Grind.{flat_map-append}
use Rattle.std.proofs.lemmas.List.{append-nil, take-append-drop, length-append, length-map, get_or_append_left, get_or-append_right, get_or-map}
use Rattle.std.proofs.lemmas.Bool.{cases_lt, cases_Bool}

-- a head is taken from a product by its inverse
undo : (h x : List ℕ) → RowOf 12 h → RowOf 12 x → times (inverse 12 h) (times h x) ≡ x
undo h x rh rx = sym (associative 12 (inverse 12 h) h x (member 12 h rh).long rx) ∙ ap (λ a. times a x) (inverse_times 12 h rh) ∙ rounds_times 12 x rx

-- two rows with the same product behind one head are equal
pub cancel : (h x y : List ℕ) → RowOf 12 h → RowOf 12 x → RowOf 12 y → times h x ≡ times h y → x ≡ y
cancel h x y rh rx ry e = sym (undo h x rh rx) ∙ ap (times (inverse 12 h)) e ∙ undo h y rh ry

-- rounds passes the test of a row
pub rounds_row : RowOf 12 (rounds 12)
unfolding is_row
rounds_row = refl

-- no row stands twice in a front
pub front : (xs ys : List (List ℕ)) → NoRepeat (xs ++ ys) → NoRepeat xs
front xs ys h i j l m e =
    h i j l (omega (arith, length-append xs ys)) (get_or_append_left xs ys [] i (omega arith) ∙ e ∙ sym (get_or_append_left xs ys [] j m))

-- nor in two lists, one behind the other, of which neither has a row twice and which share none
pub behind : (xs ys : List (List ℕ)) → NoRepeat xs → NoRepeat ys → (Shares xs ys → ⊥) → NoRepeat (xs ++ ys)
behind xs ys hx hy none i j l m e =
    let long = length-append xs ys in
    ⊎_elim (λ lj. hx i j l lj (sym (get_or_append_left xs ys [] i (omega arith)) ∙ e ∙ get_or_append_left xs ys [] j lj))
    (λ gj. let at_j = get_or-append_right xs ys (length xs) j [] refl gj in
    ⊎_elim (λ li. none (j - length xs, omega arith, (i, (li, sym (get_or_append_left xs ys [] i li) ∙ e ∙ at_j))))
    (λ gi. hy (i - length xs) (j - length xs) (omega arith) (omega arith) (sym (get_or-append_right xs ys (length xs) i [] refl gi) ∙ e ∙ at_j))
    (cases_lt i (length xs)))
    (cases_lt j (length xs))

-- the rows of a new lead come behind the others
pub rows_added : (forms : List Shape) (leads : List Lead) (f : ℕ) → rows_of forms (added forms leads f) ≡ rows_of forms leads ++ new_rows forms leads f
rows_added forms leads f = flat_map-append (rows_of_lead forms) leads (new_lead forms leads f ∷ []) ∙ ap (λ r. rows_of forms leads ++ r) (append-nil (new_rows forms leads f))

-- a lead of a form in the list, with a row for its head
abbrev pub Rightly : List Shape → Lead → Type 0
Rightly forms l = (l.form < length forms) × RowOf 12 l.head

-- leads of forms in the list with rows for heads, and no row twice
pub record Well (forms : List Shape) (leads : List Lead) : Type 0 where
  pub heads : All (Rightly forms) leads
  pub no_repeat : NoRepeat (rows_of forms leads)

module _ (forms : List Shape) (sound : Sound forms) where
  -- a row × a turn is a row
  next_row : (leads : List Lead) → All (Rightly forms) leads → RowOf 12 (next_head forms leads)
  next_row [] h = rounds_row
  next_row (l ∷ []) h = let r = All-head (Rightly forms) l [] h in times_row 12 l.head (shape_at forms l.form).turn r.1 (sound l.form r.0).turn_is
  next_row (l ∷ (m ∷ ls)) h = next_row (m ∷ ls) (All-tail (Rightly forms) l (m ∷ ls) h)

  -- a lead repeats no row, since its form repeats none
  pub lead_once : (h : List ℕ) (f : ℕ) → RowOf 12 h → f < length forms → NoRepeat (rows_of_lead forms (record { form = f; head = h }))
  lead_once h f rh lf i j l m e =
      let s = sound f lf in
      let rs : List (List ℕ) = (shape_at forms f).rows in
      let lj : j < length rs = omega (arith, length-map rs (times h)) in
      let li : i < length rs = omega arith in
      s.no_repeat i j l lj (cancel h (get_or rs i []) (get_or rs j []) rh (s.rows_are i li) (s.rows_are j lj)
      (sym (get_or-map (times h) rs i [] [] li) ∙ e ∙ get_or-map (times h) rs j [] [] lj))

  -- a free lead shares no row with the book and repeats none
  pub well_added : (limit : ℕ) (leads : List Lead) (f : ℕ) → Free forms limit leads f → Well forms leads → Well forms (added forms leads f)
  well_added limit leads f free w =
      let head = next_row leads w.heads in
      record {
        heads = All-push (Rightly forms) leads (new_lead forms leads f) w.heads (free.0.0, head);
        no_repeat = subst NoRepeat (sym (rows_added forms leads f)) (behind (rows_of forms leads) (new_rows forms leads f) w.no_repeat (lead_once (next_head forms leads) f head free.0.0) free.1);
      }

  -- the rows of a front are a front of the rows
  well_take : (n : ℕ) (leads : List Lead) → Well forms leads → Well forms (take n leads)
  well_take n leads w = record {
    heads = All-take (Rightly forms) n leads w.heads;
    no_repeat = front (rows_of forms (take n leads)) (rows_of forms (drop n leads))
        (subst NoRepeat (ap (rows_of forms) (sym (take-append-drop n leads)) ∙ flat_map-append (rows_of_lead forms) (take n leads) (drop n leads)) w.no_repeat);
  }

  -- a play adds free leads, or goes back to where it began
  well_playing : (limit : ℕ) (start leads : List Lead) (fs : List ℕ) → Well forms start → Well forms leads → Well forms (playing forms limit start leads fs)
  unfolding playing
  well_playing limit start leads [] s w = w
  well_playing limit start leads (f ∷ fs) s w =
      ⊎_elim (λ e. subst (Well forms) (sym (playing_adds forms limit start leads f fs e)) (well_playing limit start (added forms leads f) fs s (well_added limit leads f ((decides_free forms limit leads f).0 e) w)))
      (λ e. subst (Well forms) (sym (playing_ends forms limit start leads f fs e)) s) (cases_Bool (free forms limit leads f))

  -- a call plays, takes a lead from the end, or changes nothing
  well_after : (limit : ℕ) (leads : List Lead) (c : Call (List ℕ)) → Well forms leads → Well forms (after forms limit leads c)
  unfolding after
  well_after limit leads (Ring f) w = well_playing limit leads leads (f ∷ []) w w
  well_after limit leads (Play fs) w = well_playing limit leads leads fs w w
  well_after limit leads TakeBack w = well_take (length leads - 1) leads w
  well_after limit leads (Verdict n) w = w

  -- each call keeps them well
  well_from : (limit : ℕ) (leads : List Lead) (calls : List (Call (List ℕ))) → Well forms leads → Well forms (standing_from forms limit leads calls)
  unfolding standing_from
  well_from limit leads [] w = w
  well_from limit leads (c ∷ calls) w = well_from limit (after forms limit leads c) calls (well_after limit leads c w)

  -- at the start no lead stands, so that there is nothing to repeat
  pub well_standing : (limit : ℕ) (calls : List (Call (List ℕ))) → Well forms (standing forms limit calls)
  well_standing limit calls = well_from limit [] calls (record { heads = All-nil (Rightly forms); no_repeat = λ i j l m e. omega arith })

  -- and so does each lead of a play that is added
  pub well_reached : (limit : ℕ) (leads : List Lead) (fs : List ℕ) (m : ℕ) → Reached forms limit leads fs m → Well forms leads → Well forms (rung forms leads (take m fs))
  unfolding rung
  well_reached limit leads fs zero r w = w
  well_reached limit leads [] (suc m) r w = w
  well_reached limit leads (f ∷ fs) (suc m) r w =
      well_reached limit (added forms leads f) fs m (reached_rest forms limit leads leads f fs m r) (well_added limit leads f (reached_first forms limit leads leads f fs m r) w)

-- the standing leads are well, so that no row stands twice at any time
pub true_so_far : (forms : List Shape) (limit : ℕ) (calls : List (Call (List ℕ))) → Sound forms → NoRepeat (rows_of forms (standing forms limit calls))
true_so_far forms limit calls sound = (well_standing forms sound limit calls).no_repeat
