-- The trail of entries through the cells, from the last one back to the first.
use Rattle.std.proofs.Common.{◌≡◌, ℕ, zero, suc, ◌<◌, ◌≤◌, true, List, [], ◌∷◌, ◌++◌, length, set, Some, sym, refl, ap, ◌∙◌, subst, ⊎_elim, arith}
use Rattle.registers.proofs.Among.{among_here, among_before, among_which, marked_before, marked_here, once_push}
use Rattle.registers.specs.Cells.{cell_at, is_taken, trail, chained, among}
use Rattle.registers.specs.Entries.{Entry, NoCodeTwice, marked}
use Rattle.registers.specs.declared.rank.cell.Cell.{Cell}
use Rattle.registers.specs.declared.rank.cell.Link.{Link}
use Rattle.registers.specs.declared.rank.cell.Link.TheVariants.{Free, First, After}
use Rattle.std.proofs.lemmas.List.{get_or-set_other, length_push}
use Rattle.std.proofs.lemmas.Bool.{cases_Bool, false≢true, true≢false}
use Rattle.std.proofs.lemmas.Bool.Decides.{nat_tests}

-- the entry that a cell holds
abbrev pub held_at : List Cell → ℕ → Entry
held_at cs k = record { code = k; mark = (cell_at cs k).mark }

-- a chain's first step: its code is below the reach, and the rest is a chain
pub chain_step : (cs : List Cell) (r n k : ℕ) → chained cs r (suc n) (After k) ≡ true → (k < r) × (chained cs r n (cell_at cs k).link ≡ true)
unfolding chained
chain_step cs r n k h = (grind (arith, nat_tests), grind (arith, nat_tests))

-- and both make it a chain
pub chain_more : (cs : List Cell) (r n k : ℕ) → k < r → chained cs r n (cell_at cs k).link ≡ true → chained cs r (suc n) (After k) ≡ true
unfolding chained
chain_more cs r n k l h = grind (arith, nat_tests)

-- the trail ends with the entry of the code that the link names
pub trail_step : (cs : List Cell) (n k : ℕ) → trail cs (suc n) (After k) ≡ trail cs n (cell_at cs k).link ++ held_at cs k ∷ []
unfolding trail
trail_step cs n k = refl

-- each step of a chain gives one entry
pub trail_length : (cs : List Cell) (r n : ℕ) (l : Link) → chained cs r n l ≡ true → length (trail cs n l) ≡ n
unfolding trail chained
trail_length cs r n Free h = absurd (false≢true h)
trail_length cs r zero First h = refl
trail_length cs r (suc n) First h = absurd (false≢true h)
trail_length cs r zero (After k) h = absurd (false≢true h)
trail_length cs r (suc n) (After k) h =
    let s = trail_length cs r n (cell_at cs k).link (chain_step cs r n k h).1 in
    let p = length_push (trail cs n (cell_at cs k).link) (held_at cs k) in
    omega arith

-- the cells alone say how long a chain is
pub chain_only : (cs : List Cell) (r m n : ℕ) (l : Link) → chained cs r m l ≡ true → chained cs r n l ≡ true → m ≡ n
unfolding chained
chain_only cs r m n Free h i = absurd (false≢true h)
chain_only cs r zero zero First h i = refl
chain_only cs r zero (suc n) First h i = absurd (false≢true i)
chain_only cs r (suc m) n First h i = absurd (false≢true h)
chain_only cs r zero n (After k) h i = absurd (false≢true h)
chain_only cs r (suc m) zero (After k) h i = absurd (false≢true i)
chain_only cs r (suc m) (suc n) (After k) h i = ap suc (chain_only cs r m n (cell_at cs k).link (chain_step cs r m k h).1 (chain_step cs r n k i).1)

-- from a code on the trail a shorter chain goes on
pub chain_within : (cs : List Cell) (r n j : ℕ) (l : Link) → chained cs r n l ≡ true → among j (trail cs n l) ≡ true → (j < r) × ((m : ℕ) × ((m < n) × (chained cs r m (cell_at cs j).link ≡ true)))
unfolding trail chained
chain_within cs r n j Free h a = absurd (false≢true h)
chain_within cs r zero j First h a = absurd (false≢true a)
chain_within cs r (suc n) j First h a = absurd (false≢true h)
chain_within cs r zero j (After k) h a = absurd (false≢true h)
chain_within cs r (suc n) j (After k) h a =
    let s = chain_step cs r n k h in
    ⊎_elim
    (λ (e : k ≡ j). (subst (λ i. i < r) e s.0, (n, (omega arith, subst (λ i. chained cs r n (cell_at cs i).link ≡ true) e s.1))))
    (λ b. let w = chain_within cs r n j (cell_at cs k).link s.1 b in (w.0, (w.1.0, (let o = w.1.1.0 in omega arith, w.1.1.1))))
    (among_which j (trail cs n (cell_at cs k).link) (held_at cs k) a)

-- the code that a link names is on its trail, as the last entry
pub end_among : (cs : List Cell) (r n k : ℕ) → chained cs r n (After k) ≡ true → (k < r) × (among k (trail cs n (After k)) ≡ true)
unfolding trail chained
end_among cs r zero k h = absurd (false≢true h)
end_among cs r (suc n) k h = ((chain_step cs r n k h).0, among_here k (trail cs n (cell_at cs k).link) (held_at cs k) refl)

-- the entry before it is below the reach too, since the chain goes on there
pub next_below : (cs : List Cell) (r n k j : ℕ) → chained cs r n (After k) ≡ true → (cell_at cs k).link ≡ After j → (j < r) × (1 ≤ n)
unfolding chained
next_below cs r zero k j h e = absurd (false≢true h)
next_below cs r (suc n) k j h e = ((end_among cs r n j (subst (λ (x : Link). chained cs r n x ≡ true) e (chain_step cs r n k h).1)).0, omega arith)

-- no chain starts at a free link
chain_taken : (cs : List Cell) (r n : ℕ) (l : Link) → chained cs r n l ≡ true → is_taken l ≡ true
unfolding chained
chain_taken cs r n Free h = absurd (false≢true h)
chain_taken cs r n First h = refl
chain_taken cs r n (After k) h = refl

-- a code on the trail has a taken cell, since the chain goes on from it
pub trail_taken : (cs : List Cell) (r n j : ℕ) (l : Link) → chained cs r n l ≡ true → among j (trail cs n l) ≡ true → is_taken (cell_at cs j).link ≡ true
trail_taken cs r n j l h a =
    let w = chain_within cs r n j l h a in
    chain_taken cs r w.1.0 (cell_at cs j).link w.1.1.1

-- the last code is not met again: its chain would have two lengths
pub last_once : (cs : List Cell) (r n k : ℕ) → chained cs r (suc n) (After k) ≡ true → among k (trail cs n (cell_at cs k).link) ≡ true → ⊥
last_once cs r n k h a =
    let s = chain_step cs r n k h in
    let w = chain_within cs r n k (cell_at cs k).link s.1 a in
    let o = w.1.1.0 in
    let e = chain_only cs r w.1.0 n (cell_at cs k).link w.1.1.1 s.1 in
    omega arith

-- so no code stands twice on the trail
pub trail_once : (cs : List Cell) (r n : ℕ) (l : Link) → chained cs r n l ≡ true → NoCodeTwice (trail cs n l)
unfolding trail chained
trail_once cs r n Free h = absurd (false≢true h)
trail_once cs r zero First h = λ i j li lj e. omega arith
trail_once cs r (suc n) First h = absurd (false≢true h)
trail_once cs r zero (After k) h = absurd (false≢true h)
trail_once cs r (suc n) (After k) h = once_push (trail cs n (cell_at cs k).link) (held_at cs k) (trail_once cs r n (cell_at cs k).link (chain_step cs r n k h).1) (last_once cs r n k h)

-- the mark of a code on the trail is the one in its cell: each entry is read from there
pub trail_marked : (cs : List Cell) (n j : ℕ) (l : Link) → among j (trail cs n l) ≡ true → marked j (trail cs n l) ≡ Some (cell_at cs j).mark
unfolding trail
trail_marked cs zero j l a = absurd (false≢true a)
trail_marked cs (suc n) j Free a = absurd (false≢true a)
trail_marked cs (suc n) j First a = absurd (false≢true a)
trail_marked cs (suc n) j (After k) a =
    let rest = trail cs n (cell_at cs k).link in
    ⊎_elim
    (λ b. marked_before j rest (held_at cs k) b ∙ trail_marked cs n j (cell_at cs k).link b)
    (λ f.
    ⊎_elim
    (λ (e : k ≡ j). marked_here j rest (held_at cs k) (λ b. true≢false (sym b ∙ f)) e ∙ ap (λ i. Some (cell_at cs i).mark) e)
    (λ b. absurd (true≢false (sym b ∙ f)))
    (among_which j rest (held_at cs k) a))
    (cases_Bool (among j rest))

-- a cell that is not on the trail may change: neither the trail nor the chain reads it
module _ (cs : List Cell) (r j : ℕ) (x : Cell) where
  pub trail_kept : (n : ℕ) (l : Link) → (among j (trail cs n l) ≡ true → ⊥) → trail (set cs j x) n l ≡ trail cs n l
  unfolding trail
  trail_kept zero l h = refl
  trail_kept (suc n) Free h = refl
  trail_kept (suc n) First h = refl
  trail_kept (suc n) (After k) h =
      let rest = trail cs n (cell_at cs k).link in
      let same = get_or-set_other cs j k x (record { mark = 0; link = Free }) (λ e. h (among_here j rest (held_at cs k) e)) in
      let t = trail_kept n (cell_at cs k).link (λ b. h (among_before j rest (held_at cs k) b)) in
      ap (λ (c : Cell). trail (set cs j x) n c.link ++ record { code = k; mark = c.mark } ∷ []) same ∙ ap (λ es. es ++ held_at cs k ∷ []) t

  pub chain_kept : (n : ℕ) (l : Link) → chained cs r n l ≡ true → (among j (trail cs n l) ≡ true → ⊥) → chained (set cs j x) r n l ≡ true
  unfolding trail chained
  chain_kept n Free c h = absurd (false≢true c)
  chain_kept zero First c h = refl
  chain_kept (suc n) First c h = absurd (false≢true c)
  chain_kept zero (After k) c h = absurd (false≢true c)
  chain_kept (suc n) (After k) c h =
      let rest = trail cs n (cell_at cs k).link in
      let s = chain_step cs r n k c in
      let same = get_or-set_other cs j k x (record { mark = 0; link = Free }) (λ e. h (among_here j rest (held_at cs k) e)) in
      let t = chain_kept n (cell_at cs k).link s.1 (λ b. h (among_before j rest (held_at cs k) b)) in
      chain_more (set cs j x) r n k s.0 (subst (λ (c : Cell). chained (set cs j x) r n c.link ≡ true) (sym same) t)
