-- What an entry more and an entry less do to the cells of a chain.
use Rattle.std.proofs.Common.{◌≡◌, ℕ, zero, suc, ◌-◌, ◌<◌, ◌≤◌, true, List, [], ◌∷◌, ◌++◌, length, set, Some, None, Option, sym, refl, ap, ◌∙◌, subst, ⊎_elim, arith}
use Rattle.registers.proofs.Among.{among_here, among_before, among_which, marked_absent}
use Rattle.registers.proofs.Trails.{held_at, chain_step, chain_more, chain_within, chain_kept, trail_step, trail_taken, trail_marked, trail_kept, last_once}
use Rattle.registers.specs.Cells.{cell_at, is_taken, trail, chained, among, settled, end, number, led_to, rank_entries}
use Rattle.registers.specs.Entries.{Entry, marked}
use Rattle.registers.specs.declared.rank.cell.Cell.{Cell}
use Rattle.registers.specs.declared.rank.cell.Last.{Last}
use Rattle.registers.specs.declared.rank.cell.Link.{Link}
use Rattle.registers.specs.declared.rank.cell.Link.TheVariants.{Free, First, After}
use Rattle.std.proofs.lemmas.List.{get_or-set_other, get_or-set_same, length-set, set-get_or}
use Rattle.std.proofs.lemmas.Bool.{both_ways, cases_eq, false≢true}

-- every taken cell below r is that of an entry
abbrev pub Kept : List Cell → ℕ → List Entry → Type 0
Kept cs r es = (k : ℕ) → k < r → is_taken (cell_at cs k).link ≡ true → among k es ≡ true

-- the cells hold the n entries that a link leads to, and no more
abbrev pub Holds : List Cell → ℕ → ℕ → Link → Type 0
Holds cs r n l = (chained cs r n l ≡ true) × Kept cs r (trail cs n l)

-- a link that is not free is taken
taken_unless : (l : Link) → (l ≡ Free → ⊥) → is_taken l ≡ true
taken_unless Free h = absurd (h refl)
taken_unless First h = refl
taken_unless (After k) h = refl

-- the last entry in its cell makes the cells no more
pub settled_length : (cs : List Cell) (last : Option Last) → length (settled cs last) ≡ length cs
settled_length cs None = refl
settled_length cs (Some l) = length-set cs l.code l.cell

-- the mark of a code by its cell, and an entry more
module _ (cs : List Cell) (r n : ℕ) (l : Link) (linked : chained cs r n l ≡ true) where
  -- a code that is not below r has no mark: a chain stays below it
  pub mark_beyond : (j : ℕ) → r ≤ j → marked j (trail cs n l) ≡ None
  mark_beyond j h = marked_absent j (trail cs n l) (λ a. let w = (chain_within cs r n j l linked a).0 in omega arith)

  -- a free cell is on no chain
  pub mark_free : (j : ℕ) (x : Cell) → x ≡ cell_at cs j → x.link ≡ Free → marked j (trail cs n l) ≡ None
  mark_free j x own free =
      marked_absent j (trail cs n l) (λ a. both_ways (is_taken (cell_at cs j).link) (ap (λ (y : Cell). is_taken y.link) (sym own) ∙ ap is_taken free) (trail_taken cs r n j l linked a))

  -- a taken cell is that of an entry, whose mark it has
  pub mark_taken : Kept cs r (trail cs n l) → (j : ℕ) (x : Cell) → j < r → x ≡ cell_at cs j → (x.link ≡ Free → ⊥) → marked j (trail cs n l) ≡ Some x.mark
  mark_taken kept j x h own taken =
      trail_marked cs n j l (kept j h (subst (λ (y : Cell). is_taken y.link ≡ true) own (taken_unless x.link taken))) ∙ ap (λ (y : Cell). Some y.mark) (sym own)

  -- one entry more, whose code was on no trail: its cell may change
  module _ (j m : ℕ) (below : j < r) (room : r ≤ length cs) (new : among j (trail cs n l) ≡ true → ⊥) where
    -- the cells with the new entry
    abbrev filled : List Cell
    filled = set cs j (record { mark = m; link = l })

    -- there is a cell for it
    at_new : cell_at filled j ≡ record { mark = m; link = l }
    at_new = get_or-set_same cs j (record { mark = m; link = l }) (record { mark = 0; link = Free }) (omega arith)

    -- the chain goes from the new entry to the last one, and on as before
    pub more_linked : chained (set cs j (record { mark = m; link = l })) r (suc n) (After j) ≡ true
    more_linked =
        chain_more filled r n j below
        (subst (λ (c : Cell). chained filled r n c.link ≡ true) (sym at_new) (chain_kept cs r j (record { mark = m; link = l }) n l linked new))

    -- so the new entry stands behind the others
    pub more_trail : trail (set cs j (record { mark = m; link = l })) (suc n) (After j) ≡ trail cs n l ++ record { code = j; mark = m } ∷ []
    more_trail =
        trail_step filled n j
        ∙ ap (λ (c : Cell). trail filled n c.link ++ record { code = j; mark = c.mark } ∷ []) at_new
        ∙ ap (λ es. es ++ record { code = j; mark = m } ∷ []) (trail_kept cs r j (record { mark = m; link = l }) n l new)

    -- a taken cell is the new one, or was taken before
    pub more_kept : Kept cs r (trail cs n l) → Kept (set cs j (record { mark = m; link = l })) r (trail (set cs j (record { mark = m; link = l })) (suc n) (After j))
    more_kept kept k h t =
        subst (λ es. among k es ≡ true) (sym more_trail)
        (⊎_elim
        (λ (e : k ≡ j). among_here k (trail cs n l) (record { code = j; mark = m }) (sym e))
        (λ ne. among_before k (trail cs n l) (record { code = j; mark = m }) (kept k h (subst (λ (c : Cell). is_taken c.link ≡ true) (get_or-set_other cs j k (record { mark = m; link = l }) (record { mark = 0; link = Free }) ne) t)))
        (cases_eq k j))

-- one entry less: its code is not met again, so its cell may be freed
module _ (cs : List Cell) (r n k : ℕ) (x : Cell) (linked : chained cs r (suc n) (After k) ≡ true) where
  -- the rest of the chain does not pass the freed cell
  pub less_linked : chained (set cs k x) r n (cell_at cs k).link ≡ true
  less_linked = chain_kept cs r k x n (cell_at cs k).link (chain_step cs r n k linked).1 (last_once cs r n k linked)

  -- nor does its trail
  pub less_trail : trail (set cs k x) n (cell_at cs k).link ≡ trail cs n (cell_at cs k).link
  less_trail = trail_kept cs r k x n (cell_at cs k).link (last_once cs r n k linked)

  -- a cell that is still taken is that of another entry
  pub less_kept : x.link ≡ Free → r ≤ length cs → Kept cs r (trail cs (suc n) (After k)) → Kept (set cs k x) r (trail (set cs k x) n (cell_at cs k).link)
  less_kept free room kept j h t =
      let d : Cell = record { mark = 0; link = Free } in
      ⊎_elim
      (λ (e : j ≡ k).
      let now : cell_at (set cs k x) j ≡ x = ap (λ i. cell_at (set cs k x) i) e ∙ get_or-set_same cs k x d (omega arith) in
      absurd (false≢true (sym (ap (λ (c : Cell). is_taken c.link) now ∙ ap is_taken free) ∙ t)))
      (λ ne.
      let was = kept j h (subst (λ (c : Cell). is_taken c.link ≡ true) (get_or-set_other cs k j x d ne) t) in
      ⊎_elim
      (λ (e : k ≡ j). absurd (ne (sym e)))
      (λ b. subst (λ es. among j es ≡ true) (sym less_trail) b)
      (among_which j (trail cs n (cell_at cs k).link) (held_at cs k) (subst (λ es. among j es ≡ true) (trail_step cs n k) was)))
      (cases_eq j k)

-- with the entry that a link leads to taken out of its own cell, the cells hold what the link led to
pub led_holds : (cs : List Cell) (r n : ℕ) (l : Link) → Holds cs r n l
    → Holds (settled cs (led_to cs (suc n) l)) r (number (led_to cs (suc n) l)) (end (led_to cs (suc n) l)) × (rank_entries cs (led_to cs (suc n) l) ≡ trail cs n l)
unfolding chained
led_holds cs r n Free h = absurd (false≢true h.0)
led_holds cs r zero First h = (h, refl)
led_holds cs r (suc n) First h = absurd (false≢true h.0)
led_holds cs r n (After k) h =
    let own = set-get_or cs k (record { mark = 0; link = Free }) in
    let one : suc n - 1 ≡ n = omega arith in (
      subst (λ ds. Holds ds r (suc n - 1) (After k)) (sym own) (subst (λ i. Holds cs r i (After k)) (sym one) h),
      ap (λ ds. trail ds (suc n - 1) (After k)) own ∙ ap (λ i. trail cs i (After k)) one,
    )
