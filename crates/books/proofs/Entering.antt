-- Entering the rows of a lead one by one, and taking them back.
use Rattle.std.proofs.Common.{◌≡◌, ℕ, zero, suc, ◌+◌, ◌-◌, ◌<◌, ◌≤◌, Bool, true, false, cond, leb, List, [], ◌∷◌, ◌++◌, length, get_or, take, Some, None, Ok, Err, Option, Result, sym, refl, ap, ◌∙◌, subst, ⊎_elim, arith}
use Rattle.books.proofs.Placing.{placed_long, placed_more}
use Rattle.books.specs.Ringing.{placed, with_placed, without, at_place, row_answer, row_entered, Absent, Enters}
use Rattle.books.specs.declared.fault.RingFault.{RingFault}
use Rattle.books.specs.declared.fault.RingFault.TheVariants.{Again, Register}
use Rattle.registers.proofs.Entries.{without_last_last}
use Rattle.registers.specs.Entries.{Entry, Shelf, with_entries, marked, room, held, entering, entered, without_last, taken}
use Rattle.registers.specs.declared.entered.Entered.{Entered}
use Rattle.registers.specs.declared.entered.Entered.TheVariants.{Added, Held}
use Rattle.registers.specs.declared.fault.RegisterFault.{RegisterFault}
use Rattle.registers.specs.declared.fault.RegisterFault.TheVariants.{Reach, Full}
use Rattle.rows.specs.Code.{code}
use Rattle.std.proofs.lemmas.List.{append_assoc, length-append, length-take-le, take_at, take_more}
use Rattle.std.proofs.lemmas.Bool.{cases_eq}

-- what is taken from the first entries is the last of them
taken_front : (es : List Entry) (n : ℕ) → n ≤ length es → without_last (take n es) ≡ take (n - 1) es
taken_front es zero l = refl
taken_front es (suc n) l =
    let d : Entry = record { code = 0; mark = 0 } in
    let one : n + 1 ≡ suc n = omega arith in
    let back : n ≡ suc n - 1 = omega arith in
    ap (λ k. without_last (take k es)) (sym one) ∙ ap without_last (take_more es n d (omega arith)) ∙ without_last_last (take n es) (get_or es n d) ∙ ap (λ k. take k es) back

-- so each take back leaves one entry less, as long as there is one
pub taken_more : (s : Shelf) (i : ℕ) → taken (without i s) ≡ without (i + 1) s
taken_more s i =
    let es = s.entries in
    let e : length es - i - 1 ≡ length es - (i + 1) = omega arith in
    ap (λ xs. with_entries xs s) (taken_front es (length es - i) (omega arith) ∙ ap (λ k. take k es) e)

-- a code is added only past the test for a mark
held_added : (o : Option ℕ) (r : Result Entered RegisterFault) → held o r ≡ Ok Added → o ≡ None
held_added None r e = refl
held_added (Some m) r e = cc

-- a mark is answered only by that test
held_mark : (o : Option ℕ) (b : Bool) (m : ℕ) → held o (cond b (Err Full) (Ok Added)) ≡ Ok (Held m) → o ≡ Some m
held_mark None true m e = cc
held_mark None false m e = cc
held_mark (Some k) b m e = cc

-- and both come after the test for the reach
past_reach : (b : Bool) (r : Result Entered RegisterFault) (x : Entered) → cond b (Err Reach) r ≡ Ok x → r ≡ Ok x
past_reach true r x e = cc
past_reach false r x e = e

module _ (s : Shelf) (c : ℕ) where
  -- what is added was absent
  added_absent : entering s c ≡ Ok Added → marked c s.entries ≡ None
  added_absent e = held_added (marked c s.entries) (room s.capacity s.entries) (past_reach (leb s.reach c) (held (marked c s.entries) (room s.capacity s.entries)) Added e)

  -- what is held was there with that mark
  held_marked : (m : ℕ) → entering s c ≡ Ok (Held m) → marked c s.entries ≡ Some m
  held_marked m e = held_mark (marked c s.entries) (leb s.capacity (length s.entries)) m (past_reach (leb s.reach c) (held (marked c s.entries) (room s.capacity s.entries)) (Held m) e)

module _ (s : Shelf) (p : ℕ) (new : List (List ℕ)) (j : ℕ) (inside : j < length new) (absent : Absent s.entries p new j) where
  -- the register with the first j of the new rows
  abbrev so_far : Shelf
  so_far = with_placed p (take j new) s

  -- the next row
  abbrev row : List ℕ
  row = get_or new j []

  -- one row more is absent
  absent_more : marked (code row) so_far.entries ≡ None → Absent s.entries p new (j + 1)
  absent_more h i l =
      ⊎_elim (λ (e : i ≡ j). subst (λ k. marked (code (get_or new k [])) (s.entries ++ placed p (take k new)) ≡ None) (sym e) h)
      (λ ne. absent i (omega arith)) (cases_eq i j)

  -- the next row stands behind the others
  more_placed : with_entries (so_far.entries ++ record { code = code row; mark = p + j } ∷ []) s ≡ with_placed p (take (j + 1) new) s
  more_placed =
      let one : suc j ≡ j + 1 = omega arith in
      ap (λ xs. with_entries xs s) (append_assoc s.entries (placed p (take j new)) (record { code = code row; mark = p + j } ∷ []) ∙ ap (λ xs. s.entries ++ xs) (sym (placed_more p new j inside) ∙ ap (λ k. placed p (take k new)) one))

  -- with the first j rows taken back, the register is as it was
  back : without j so_far ≡ s
  back =
      let es = placed p (take j new) in
      let long : length (s.entries ++ es) - j ≡ length s.entries = omega (arith, length-append s.entries es, placed_long p (take j new), length-take-le j new (omega arith)) in
      ap (λ xs. with_entries xs s) (take_at s.entries es (length (s.entries ++ es) - j) (sym long))

  -- a row that is entered was absent, and stands behind the others
  goes_in : Ok tt ≡ row_answer (p + j) row so_far → (row_entered (p + j) row so_far ≡ with_placed p (take (j + 1) new) s) × Absent s.entries p new (j + 1)
  goes_in = by (entering so_far (code row)) refl
    where
      by : (r : Result Entered RegisterFault) → r ≡ entering so_far (code row) → Ok tt ≡ at_place (p + j) r
          → (entered r (record { code = code row; mark = p + j }) so_far ≡ with_placed p (take (j + 1) new) s) × Absent s.entries p new (j + 1)
      by (Ok Added) is ok = (more_placed, absent_more (added_absent so_far (code row) (sym is)))
      by (Ok (Held m)) is ok = absurd cc
      by (Err e) is ok = absurd cc

  -- a row that is turned down is the first that is
  goes_back : (e : RingFault) → Err e ≡ row_answer (p + j) row so_far → Enters s p new (Err e) (without j (row_entered (p + j) row so_far))
  goes_back e = by (entering so_far (code row)) refl
    where
      by : (r : Result Entered RegisterFault) → r ≡ entering so_far (code row) → Err e ≡ at_place (p + j) r → Enters s p new (Err e) (without j (entered r (record { code = code row; mark = p + j }) so_far))
      by (Ok Added) is why = absurd cc
      by (Ok (Held m)) is why =
          let same : e ≡ Again (p + j) m = cc in
          rw same (back, (j, inside, refl, held_marked so_far (code row) m (sym is), absent))
      by (Err f) is why =
          let same : e ≡ Register f = cc in
          rw same (back, (j, inside, sym is, absent))

module _ (s now : Shelf) (p : ℕ) (new : List (List ℕ)) (j : ℕ) (x : List ℕ) (inside : j < length new) (stand : now ≡ with_placed p (take j new) s) (absent : Absent s.entries p new j) (is : x ≡ get_or new j []) where
  -- one row more is entered behind the first j
  pub enters_more : Ok tt ≡ row_answer (p + j) x now → (row_entered (p + j) x now ≡ with_placed p (take (j + 1) new) s) × Absent s.entries p new (j + 1)
  enters_more = rw (is, stand) (goes_in s p new j inside absent)

  -- it is turned down, and the rows before it are taken back
  pub enters_not : (e : RingFault) → Err e ≡ row_answer (p + j) x now → Enters s p new (Err e) (without j (row_entered (p + j) x now))
  enters_not e = rw (is, stand) (goes_back s p new j inside absent e)
