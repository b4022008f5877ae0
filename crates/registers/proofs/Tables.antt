-- The rank table as a whole: its last entry, and what one entry more and one less make of it.
use Rattle.std.proofs.Common.{◌≡◌, ℕ, zero, suc, ◌+◌, ◌<◌, ◌≤◌, true, List, [], ◌∷◌, ◌++◌, length, set, Some, None, Ok, Err, Option, sym, refl, ap, ◌∙◌, subst, arith}
use Rattle.registers.proofs.Among.{absent_marked}
use Rattle.registers.proofs.Entries.{last_mark_last, without_last_last}
use Rattle.registers.proofs.Settling.{Kept, Holds, settled_length, more_linked, more_kept, more_trail, less_linked, less_kept, less_trail, led_holds}
use Rattle.registers.proofs.Trails.{held_at, trail_step, trail_length, trail_once, end_among, next_below}
use Rattle.registers.specs.Cells.{cell_at, trail, chained, settled, end, number, led_to, previous, rank_entries}
use Rattle.registers.specs.Entries.{NoCodeTwice, marked, last_mark, without_last}
use Rattle.registers.specs.Lent.{most, used, Beyond}
use Rattle.registers.specs.declared.fault.RegisterFault.TheVariants.{Empty}
use Rattle.registers.specs.declared.rank.cell.Cell.{Cell}
use Rattle.registers.specs.declared.rank.cell.Last.{Last}
use Rattle.registers.specs.declared.rank.cell.Link.{Link}
use Rattle.registers.specs.declared.rank.cell.Link.TheVariants.{Free, After}
use Rattle.registers.specs.declared.rank.rank_table.RankTable.{RankTable}
use Rattle.std.proofs.lemmas.List.{drop-set-lt, get_or-set_same, length-set, set-set}
use Rattle.std.proofs.lemmas.Bool.{false≢true}

-- what the ghost fields of a table say
pub record Sound (cs : List Cell) (last : Option Last) : Type 0 where
  pub linked : chained (settled cs last) (used (length cs)) (number last) (end last) ≡ true
  pub apart : NoCodeTwice (rank_entries cs last)
  pub kept : Kept (settled cs last) (used (length cs)) (rank_entries cs last)

-- the second follows from the first
sound : (cs : List Cell) (last : Option Last) → Holds (settled cs last) (used (length cs)) (number last) (end last) → Sound cs last
sound cs last h = record { linked = h.0; apart = trail_once _ _ _ _ h.0; kept = h.1 }

-- a table that has a last entry
module _ {K : Type 0} (t : RankTable K) (l : Last) (is : t.last ≡ Some l) where
  -- the chain starts at it
  linked_some : chained (set t.cells.now l.code l.cell) (used (length t.cells.now)) l.count (After l.code) ≡ true
  linked_some = subst (λ (o : Option Last). chained (settled t.cells.now o) (used (length t.cells.now)) (number o) (end o) ≡ true) is t.linked

  -- so it is below the reach
  pub last_below : l.code < used (length t.cells.now)
  last_below = (end_among (set t.cells.now l.code l.cell) (used (length t.cells.now)) l.count l.code linked_some).0

  -- and there is a cell for it
  at_last : cell_at (set t.cells.now l.code l.cell) l.code ≡ l.cell
  at_last = get_or-set_same t.cells.now l.code l.cell (record { mark = 0; link = Free }) (omega (arith, last_below))

  -- whose content is the one that stands in the table
  pub own_last : (k : ℕ) → l.code ≡ k → l.cell ≡ cell_at (settled t.cells.now t.last) k
  own_last k e = sym (ap (λ o. cell_at (settled t.cells.now o) k) is ∙ ap (cell_at (settled t.cells.now (Some l))) (sym e) ∙ at_last)

  -- the entry before it is below the reach too
  pub previous_below : (k : ℕ) → l.cell.link ≡ After k → (k < used (length t.cells.now)) × (1 ≤ l.count)
  previous_below k e = next_below (set t.cells.now l.code l.cell) (used (length t.cells.now)) l.count l.code k linked_some (ap (λ (c : Cell). c.link) at_last ∙ e)

  -- what is written into its own cell is not beyond use
  pub rewritten_beyond : (x : Cell) → Beyond t.cells.now (set t.cells.now l.code x)
  rewritten_beyond x = (length-set t.cells.now l.code x, drop-set-lt most t.cells.now l.code x (omega (arith, last_below)))

  -- nor is it looked at, so the table holds the same entries after it
  pub rewritten : (x : Cell) → Sound (set t.cells.now l.code x) t.last
  rewritten x =
      let cs = t.cells.now in
      let same : settled (set cs l.code x) t.last ≡ settled cs t.last = ap (λ o. settled (set cs l.code x) o) is ∙ set-set cs l.code x l.cell ∙ sym (ap (λ o. settled cs o) is) in
      sound (set cs l.code x) t.last (
      subst (λ n. Holds (settled (set cs l.code x) t.last) (used n) (number t.last) (end t.last)) (sym (length-set cs l.code x))
      (subst (λ ds. Holds ds (used (length cs)) (number t.last) (end t.last)) (sym same) (t.linked, t.kept)))

-- where the cell of the last entry is filled, what is beyond use is as it was
settled_by : {K : Type 0} (t : RankTable K) (o : Option Last) → t.last ≡ o → (ds : List Cell) → ds ≡ settled t.cells.now t.last → Beyond t.cells.now ds
settled_by t None is ds e = subst (λ xs. Beyond t.cells.now xs) (sym (e ∙ ap (λ o. settled t.cells.now o) is)) (refl, refl)
settled_by t (Some l) is ds e = subst (λ xs. Beyond t.cells.now xs) (sym (e ∙ ap (λ o. settled t.cells.now o) is)) (rewritten_beyond t l is l.cell)

pub settled_beyond : {K : Type 0} (t : RankTable K) (ds : List Cell) → ds ≡ settled t.cells.now t.last → Beyond t.cells.now ds
settled_beyond t ds e = settled_by t t.last refl ds e

-- with no last entry nothing can be taken back, and nothing goes
pub none_left : {K : Type 0} (t : RankTable K) → t.last ≡ None → (last_mark (rank_entries t.cells.now t.last) ≡ Err Empty) × (rank_entries t.cells.now t.last ≡ without_last (rank_entries t.cells.now t.last))
unfolding trail
none_left t is =
    let none : rank_entries t.cells.now t.last ≡ [] = ap (λ o. rank_entries t.cells.now o) is in
    (ap last_mark none, none ∙ sym (ap without_last none))

-- one entry more, after the cell of the last one is filled
module _ {K : Type 0} (t : RankTable K) (j m : ℕ) (below : j < used (length t.cells.now)) (new : marked j (rank_entries t.cells.now t.last) ≡ None) where
  -- the table holds the entries there were, and the new one
  abbrev Adds : List Cell → Link → ℕ → Type 0
  Adds ds l n =
      let last : Option Last = Some (record { code = j; cell = record { mark = m; link = l }; count = n }) in
      Sound ds last × (rank_entries ds last ≡ rank_entries t.cells.now t.last ++ record { code = j; mark = m } ∷ [])

  -- a code with no mark is on no trail, so its cell may be filled
  adds : Adds (settled t.cells.now t.last) (end t.last) (suc (number t.last))
  adds =
      let ds = settled t.cells.now t.last in
      let r = used (length t.cells.now) in
      let n = number t.last in
      let l = end t.last in
      let long = settled_length t.cells.now t.last in
      let room : r ≤ length ds = omega arith in
      let absent = absent_marked j (rank_entries t.cells.now t.last) new in (
        sound ds (Some (record { code = j; cell = record { mark = m; link = l }; count = suc n }))
            (subst (λ i. Holds (set ds j (record { mark = m; link = l })) (used i) (suc n) (After j)) (sym long)
            (more_linked ds r n l t.linked j m below room absent, more_kept ds r n l t.linked j m below room absent t.kept)),
        more_trail ds r n l t.linked j m below room absent,
      )

  -- the same, in the words of the call that adds it
  pub added : (ds : List Cell) (l : Link) (n : ℕ) → ds ≡ settled t.cells.now t.last → l ≡ end t.last → n ≡ length (rank_entries t.cells.now t.last) → Adds ds l (n + 1)
  added ds l n d e s =
      let long = trail_length (settled t.cells.now t.last) (used (length t.cells.now)) (number t.last) (end t.last) t.linked in
      let one : n + 1 ≡ suc (number t.last) = omega arith in
      subst (λ (x : List Cell). Adds x l (n + 1)) (sym d)
      (subst (λ (x : Link). Adds (settled t.cells.now t.last) x (n + 1)) (sym e)
      (subst (λ k. Adds (settled t.cells.now t.last) (end t.last) k) (sym one) adds))

-- one entry less: the cell of the last one is freed, and the one before it is the last
module _ {K : Type 0} (t : RankTable K) (l : Last) (is : t.last ≡ Some l) (x : Cell) (free : x.link ≡ Free) where
  -- the table holds the entries there were but the last, whose mark is answered
  abbrev Removes : Option Last → Type 0
  Removes o =
      Sound (set t.cells.now l.code x) o × (rank_entries (set t.cells.now l.code x) o ≡ without_last (rank_entries t.cells.now t.last)) × (last_mark (rank_entries t.cells.now t.last) ≡ Ok l.cell.mark)

  -- the chain goes on from the entry before the last, and does not pass the freed cell
  removes : (n : ℕ) → l.count ≡ n → Removes (led_to (set t.cells.now l.code x) n l.cell.link)
  unfolding chained
  removes zero e = absurd (false≢true (subst (λ n. chained (set t.cells.now l.code l.cell) (used (length t.cells.now)) n (After l.code) ≡ true) e (linked_some t l is)))
  removes (suc n) e =
      let cs = t.cells.now in
      let ds = set cs l.code l.cell in
      let k = l.code in
      let r = used (length cs) in
      let chain : chained (set cs l.code l.cell) (used (length cs)) (suc n) (After l.code) ≡ true = subst (λ i. chained ds r i (After k) ≡ true) e (linked_some t l is) in
      let all : rank_entries cs t.last ≡ trail (set cs l.code l.cell) (suc n) (After l.code) = ap (λ o. rank_entries cs o) is ∙ ap (λ i. trail ds i (After k)) e in
      let own = at_last t l is in
      let long = length-set cs k l.cell in
      let room : used (length cs) ≤ length (set cs l.code l.cell) = omega arith in
      let held = subst (λ (o : Option Last). Kept (settled cs o) r (rank_entries cs o)) is t.kept in
      let rest : Holds (set (set cs l.code l.cell) l.code x) (used (length cs)) n (cell_at (set cs l.code l.cell) l.code).link =
      (less_linked ds r n k x chain, less_kept ds r n k x chain free room (subst (λ i. Kept ds r (trail ds i (After k))) e held)) in
      let over = set-set cs k l.cell x in
      let holds : Holds (set cs l.code x) (used (length cs)) n l.cell.link =
      subst (λ (c : Cell). Holds (set cs k x) r n c.link) own (subst (λ es. Holds es r n (cell_at ds k).link) over rest) in
      let led = led_holds (set cs k x) r n l.cell.link holds in
      let split = all ∙ trail_step ds n k in
      let o = led_to (set cs k x) (suc n) l.cell.link in (
        sound (set cs k x) o (subst (λ i. Holds (settled (set cs k x) o) (used i) (number o) (end o)) (sym (length-set cs k x)) led.0),
        led.1
            ∙ sym (ap without_last split ∙ without_last_last (trail ds n (cell_at ds k).link) (held_at ds k)
            ∙ sym (less_trail ds r n k x chain)
            ∙ ap (λ es. trail es n (cell_at ds k).link) over
            ∙ ap (λ (c : Cell). trail (set cs k x) n c.link) own),
        ap last_mark split ∙ last_mark_last (trail ds n (cell_at ds k).link) (held_at ds k) ∙ ap (λ (c : Cell). Ok c.mark) own,
      )

  -- the same, in the words of the call that takes it back
  pub removed : (o : Option Last) → o ≡ previous (set t.cells.now l.code x) t.last → Removes o
  removed o p = subst Removes (sym (p ∙ ap (λ z. previous (set t.cells.now l.code x) z) is)) (removes l.count refl)
