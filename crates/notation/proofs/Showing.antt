-- Which faults show where a walk stands, told by its state.
use Rattle.std.proofs.Common.{◌≡◌, ℕ, suc, ◌+◌, ◌-◌, ◌<◌, ◌≤◌, true, false, ◌⊎◌, List, [], ◌∷◌, ◌++◌, length, get_or, take, drop, refl, ap, ◌∙◌, inl, inr, arith}
use Rattle.rows.specs.Text.{named}
use Rattle.std.proofs.lemmas.List.{length-take-le, length-drop, take_all, take_more, drop_more}
use Rattle.std.proofs.lemmas.Bool.{cases_lt, both_ways}
use Rattle.notation.specs.Causes.{number}
use Rattle.notation.specs.Changes.{ascending, made, can_ring}
use Rattle.notation.specs.Faults.{Shows, Complete, ChangeAt, BlocksAt, width, last_item}
use Rattle.notation.specs.Grammar.{Item, dash, ex, run, Tree, spell, written}
use Rattle.notation.specs.declared.fault.Fault.{Fault}
use Rattle.notation.specs.declared.fault.Fault.TheVariants.{Byte, Early, Places, Unrung, Many}
use Rattle.notation.proofs.Following.{is_notation, goes_on}
use Rattle.notation.specs.Reading.{Seen, State, Step, goes, halts, kind, start}
use Rattle.notation.proofs.Shape.{shape, walk, walk_append, Accepts}
use Rattle.notation.proofs.Spelling.{told, Ends, Spelled, spelled_at, ends_wide, same_spelled}

-- a run that stands last ends at j
abbrev pub Reaches : ℕ → Seen → Type 0
Reaches j Seen.fresh = Unit {0}
Reaches j Seen.signed = Unit {0}
Reaches j Seen.crossed = Unit {0}
Reaches j (Seen.running p ws) = p + length ws ≡ j
Reaches j Seen.pointed = Unit {0}

-- after j bytes the walk stands in this state, whose block begins behind the last comma
pub record Here (t : List ℕ) (j : ℕ) (st : State) : Type 0 where
  pub inside : j ≤ length t
  pub walked : walk 0 (goes start) (take j t) ≡ goes st
  pub before : st.from ≤ j
  pub begins : (st.from ≡ 0) ⊎ ((0 < st.from) × (get_or t (st.from - 1) 0 ≡ 44))
  pub no_comma : (k : ℕ) → st.from ≤ k → k < j → get_or t k 0 ≡ 44 → ⊥
  pub reaches : Reaches j st.seen

-- the change with these places that begins at p stands last, and is complete
pub record Ending (t : List ℕ) (j p : ℕ) (ws : List ℕ) (st : State) : Type 0 where
  pub accepts : Accepts st.seen
  pub last : (i : Item) → Ends st.seen i → (written i ≡ ws) × Complete t j i × (p + width i ≡ j)

-- a block may end at j
abbrev pub Whole : List ℕ → ℕ → Type 0
Whole t j = (j ≡ length t) ⊎ (get_or t j 0 ≡ 44)

-- a fault's number is at least 2 and at most 5
pub number_range : (f : Fault) → (2 ≤ number f) × (number f ≤ 5)
number_range (Byte k) = omega arith
number_range (Early k) = omega arith
number_range (Places k) = omega arith
number_range (Unrung k) = omega arith
number_range (Many k) = omega arith

-- a cross that stands last is complete
pub cross_ending : (t : List ℕ) (j : ℕ) (st : State) → st.seen ≡ Seen.crossed → Ending t (suc j) j [] st
cross_ending t j st e = record { accepts = rw e tt; last = λ i h. ends i (rw e at h) }
  where
    ends : (i : Item) → Ends Seen.crossed i → (written i ≡ []) × Complete t (suc j) i × (j + width i ≡ suc j)
    ends dash h = (refl, tt, omega arith)
    ends ex h = (refl, tt, omega arith)
    ends (run b bs) h = absurd h

-- a run that stands last is complete where no bell character follows
pub run_ending : (t : List ℕ) (j p : ℕ) (ws : List ℕ) (st : State) → st.seen ≡ Seen.running p ws → p + length ws ≡ j → (j ≡ length t) ⊎ (named (get_or t j 0) ≡ 0) → Ending t j p ws st
run_ending t j p ws st e r c = record { accepts = rw e tt; last = λ i h. ends i (rw e at h) }
  where
    ends : (i : Item) → Ends (Seen.running p ws) i → (written i ≡ ws) × Complete t j i × (p + width i ≡ j)
    ends dash h = absurd h
    ends ex h = absurd h
    ends (run b bs) h = (h, c, omega (arith, ends_wide (Seen.running p ws) (run b bs) h))

-- the walk after one byte more
pub walked_next : (t : List ℕ) (j b : ℕ) (st : State) → Here t j st → j < length t → get_or t j 0 ≡ b → walk 0 (goes start) (take (suc j) t) ≡ shape j (kind b) st.seen st
walked_next t j b st h l e =
    let r = walk_append (take j t) (b ∷ []) 0 (goes start) in
    let i : r.0 ≡ j = omega (arith, r.1, length-take-le j t h.inside) in
    let m : take (suc j) t ≡ take j t ++ b ∷ [] = let s : j + 1 ≡ suc j = omega arith in cc (take_more t j 0 l) in
    ap (λ (y : List ℕ). walk 0 (goes start) y) m ∙ r.2 ∙ ap (λ (s : Step). walk r.0 s (b ∷ [])) h.walked ∙ ap (λ (y : ℕ). walk y (goes st) (b ∷ [])) i ∙ one (shape j (kind b) st.seen st)
  where
    one : (s : Step) → walk (suc j) s [] ≡ s
    one (goes y) = refl
    one (halts f) = refl

-- what stands at j, and behind it
pub at_byte : (t : List ℕ) (j b : ℕ) (bs : List ℕ) → drop j t ≡ b ∷ bs → (j < length t) × (get_or t j 0 ≡ b) × (drop (suc j) t ≡ bs)
at_byte t j b bs e =
    let l : j < length t = omega (arith, length-drop j t, ap (λ (y : List ℕ). length y) e) in
    let s : j + 1 ≡ suc j = omega arith in
    let d = drop_more t j 0 l in
    (l, cc, cc)

module _ (n : ℕ) (t : List ℕ) where
  -- nothing shows before j, and at j nothing with a number below m
  abbrev pub Past : ℕ → ℕ → Type 0
  Past j m = (i : ℕ) (g : Fault) → Shows n t i g → (j < i) ⊎ ((i ≡ j) × (m ≤ number g))

  -- a fault shows within the text
  pub shows_inside : (j : ℕ) (g : Fault) → Shows n t j g → j ≤ length t
  shows_inside j (Byte k) s = omega (arith, s.0, s.1)
  shows_inside j (Early k) s = omega (arith, s.0, s.1)
  shows_inside j (Places p) s = s.1.inside
  shows_inside j (Unrung p) s = s.1.inside
  shows_inside j (Many p) s = s.1.inside

  -- more is past if nothing with a lower number shows at j
  pub raise : (j l m : ℕ) → Past j l → ((g : Fault) → Shows n t j g → l ≤ number g → number g < m → ⊥) → Past j m
  raise j l m h none i g s = go (h i g s) (cases_lt (number g) m)
    where
      go : (j < i) ⊎ ((i ≡ j) × (l ≤ number g)) → (number g < m) ⊎ (m ≤ number g) → (j < i) ⊎ ((i ≡ j) × (m ≤ number g))
      go (inl a) c = inl a
      go (inr a) (inl c) = absurd (none g (rw a.0 at s) a.1 c)
      go (inr a) (inr c) = inr (a.0, c)

  -- where nothing is left at j, what shows is later
  pub next : (j : ℕ) → Past j 6 → Past (suc j) 2
  next j h i g s = go (h i g s) (cases_lt (suc j) i)
    where
      go : (j < i) ⊎ ((i ≡ j) × (6 ≤ number g)) → (suc j < i) ⊎ (i ≤ suc j) → (suc j < i) ⊎ ((i ≡ suc j) × (2 ≤ number g))
      go (inl a) (inl c) = inl c
      go (inl a) (inr c) = inr (omega arith, (number_range g).0)
      go (inr a) c = absurd (omega (arith, number_range g))

  module _ (j : ℕ) (st : State) (h : Here t j st) where
    -- a tree that spells the bytes before j tells of the state
    pub seen_by : (x : Tree) → spell x ≡ take j t → Spelled x st
    seen_by x e = spelled_at x (take j t) st e h.walked

    -- the bytes before j go on, so the last of them is not at fault
    pub not_byte : (k : ℕ) → Shows n t j (Byte k) → ⊥
    not_byte k s = s.3 (rw (← s.1) (goes_on (take j t) st h.walked))

    -- the text does not end too early before its end, nor where a notation may end
    pub not_early : (k : ℕ) → (j < length t) ⊎ Accepts st.seen → Shows n t j (Early k) → ⊥
    not_early k (inl l) s = omega (arith, s.0, s.1)
    not_early k (inr a) s =
        let w : take j t ≡ t = take_all j t (omega (arith, s.0, s.1)) in
        s.3 (rw w at (is_notation (take j t) st h.walked a))

    -- where a notation spells the bytes, it may end
    pub accepted : (x : Tree) → spell x ≡ take j t → Accepts st.seen
    accepted x e = go st.seen (last_item x) (seen_by x e).ends
      where
        go : (s : Seen) (i : Item) → Ends s i → Accepts s
        go Seen.fresh i d = d
        go Seen.signed i d = d
        go Seen.crossed i d = tt
        go (Seen.running p ws) i d = tt
        go Seen.pointed i d = d

    -- where none may end, at most the end of the text is a fault
    pub nothing : j < length t → (Accepts st.seen → ⊥) → (g : Fault) → Shows n t j g → ⊥
    nothing l a (Byte k) s = not_byte k s
    nothing l a (Early k) s = not_early k (inl l) s
    nothing l a (Places p) s = a (accepted s.0 s.1.spells)
    nothing l a (Unrung p) s = a (accepted s.0 s.1.spells)
    nothing l a (Many p) s = a (accepted s.0 s.1.spells)

    -- within a run no change is complete, and no block is whole
    pub within : j < length t → (p : ℕ) (ws : List ℕ) → st.seen ≡ Seen.running p ws → 0 < named (get_or t j 0) → (g : Fault) → Shows n t j g → ⊥
    within l p ws r b g s = go g s
      where
        complete : (i : Item) → Ends (Seen.running p ws) i → Complete t j i → ⊥
        complete dash d c = d
        complete ex d c = d
        complete (run x xs) d (inl c) = omega arith
        complete (run x xs) d (inr c) = omega arith

        whole : Whole t j → ⊥
        whole (inl c) = omega arith
        whole (inr c) = let z : named (get_or t j 0) ≡ 0 = ap named c in omega arith

        go : (g : Fault) → Shows n t j g → ⊥
        go (Byte k) s = not_byte k s
        go (Early k) s = not_early k (inl l) s
        go (Places q) s = complete (last_item s.0) (rw r at (seen_by s.0 s.1.spells).ends) s.1.complete
        go (Unrung q) s = complete (last_item s.0) (rw r at (seen_by s.0 s.1.spells).ends) s.1.complete
        go (Many q) s = whole s.1.whole

    module _ (p : ℕ) (ws : List ℕ) (z : Ending t j p ws st) where
      -- a tree for the bytes before j has this change last
      last_of : (x : Tree) → spell x ≡ take j t → (written (last_item x) ≡ ws) × Complete t j (last_item x) × (p + width (last_item x) ≡ j)
      last_of x e = z.last (last_item x) (seen_by x e).ends

      -- there is such a tree
      change_at : (x : Tree) × ChangeAt t j p x × (written (last_item x) ≡ ws)
      change_at =
          let (x, e) = is_notation (take j t) st h.walked z.accepts in
          let l = last_of x e in
          (x, record { inside = h.inside; spells = e; complete = l.1; begins = l.2 }, l.0)

      -- the change's places are not in order
      pub shows_places : ascending n ws ≡ false → Shows n t j (Places p)
      shows_places e = let (x, c, w) = change_at in (x, c, rw w e)

      -- the change cannot be rung
      pub shows_unrung : can_ring (made n ws) ≡ false → Shows n t j (Unrung p)
      shows_unrung e = let (x, c, w) = change_at in (x, c, rw w e)

      -- of a change in order none has a fault of places
      pub not_places : (q : ℕ) → ascending n ws ≡ true → Shows n t j (Places q) → ⊥
      not_places q e (x, c, f) = both_ways (ascending n ws) (rw (last_of x c.spells).0 at f) e

      -- of a change that can be rung none has a fault of ringing
      pub not_unrung : (q : ℕ) → can_ring (made n ws) ≡ true → Shows n t j (Unrung q) → ⊥
      not_unrung q e (x, c, f) = both_ways (can_ring (made n ws)) (rw (last_of x c.spells).0 at f) e

    -- the blocks have too many changes
    pub shows_many : Accepts st.seen → Whole t j → 64 < length (told st) → Shows n t j (Many st.from)
    shows_many a w l =
        let (x, e) = is_notation (take j t) st h.walked a in
        (x, record { inside = h.inside; spells = e; whole = w; before = h.before; begins = h.begins; no_comma = h.no_comma }, rw (← (seen_by x e).changes) l)

    -- blocks with few changes have not too many
    pub not_many : (s : ℕ) → length (told st) ≤ 64 → Shows n t j (Many s) → ⊥
    not_many s l (x, c, m) = omega (arith, ap (λ (y : List (List ℕ)). length y) (seen_by x c.spells).changes)

    -- inside a block there is no fault of blocks
    pub not_whole : (s : ℕ) → (Whole t j → ⊥) → Shows n t j (Many s) → ⊥
    not_whole s w (x, c, m) = w c.whole

-- a block before j does not begin before another, whose comma would stand in it
begins_late : (t : List ℕ) (j s r : ℕ) (x y : Tree) → BlocksAt t j s x → BlocksAt t j r y → r ≤ s
begins_late t j s r x y a b = go (cases_lt s r) b.begins
  where
    go : (s < r) ⊎ (r ≤ s) → (r ≡ 0) ⊎ ((0 < r) × (get_or t (r - 1) 0 ≡ 44)) → r ≤ s
    go (inl l) (inl z) = omega arith
    go (inl l) (inr z) = absurd (a.no_comma (r - 1) (omega arith) (omega (arith, b.before)) z.1)
    go (inr l) z = l

module _ (n : ℕ) (t : List ℕ) (j : ℕ) where
  -- a byte at fault is not the last of a text that goes on
  not_both : (k m : ℕ) → Shows n t j (Byte k) → Shows n t j (Early m) → ⊥
  not_both k m a b = let w : take (k + 1) t ≡ t = take_all (k + 1) t (omega arith) in a.3 (rw w b.2)

  -- of each number one fault shows at a time
  pub same_fault : (f g : Fault) → Shows n t j f → Shows n t j g → number f ≡ number g → f ≡ g
  same_fault (Byte k) (Byte m) a b e = ap Byte (omega (arith, a.1, b.1))
  same_fault (Byte k) (Early m) a b e = absurd (not_both k m a b)
  same_fault (Byte k) (Places m) a b e = absurd (omega arith)
  same_fault (Byte k) (Unrung m) a b e = absurd (omega arith)
  same_fault (Byte k) (Many m) a b e = absurd (omega arith)
  same_fault (Early k) (Byte m) a b e = absurd (not_both m k b a)
  same_fault (Early k) (Early m) a b e = ap Early (omega (arith, a.1, b.1))
  same_fault (Early k) (Places m) a b e = absurd (omega arith)
  same_fault (Early k) (Unrung m) a b e = absurd (omega arith)
  same_fault (Early k) (Many m) a b e = absurd (omega arith)
  same_fault (Places k) (Byte m) a b e = absurd (omega arith)
  same_fault (Places k) (Early m) a b e = absurd (omega arith)
  same_fault (Places k) (Places m) a b e = ap Places (omega (arith, a.1.begins, b.1.begins, (same_spelled a.0 b.0 (take j t) a.1.spells b.1.spells).1))
  same_fault (Places k) (Unrung m) a b e = absurd (omega arith)
  same_fault (Places k) (Many m) a b e = absurd (omega arith)
  same_fault (Unrung k) (Byte m) a b e = absurd (omega arith)
  same_fault (Unrung k) (Early m) a b e = absurd (omega arith)
  same_fault (Unrung k) (Places m) a b e = absurd (omega arith)
  same_fault (Unrung k) (Unrung m) a b e = ap Unrung (omega (arith, a.1.begins, b.1.begins, (same_spelled a.0 b.0 (take j t) a.1.spells b.1.spells).1))
  same_fault (Unrung k) (Many m) a b e = absurd (omega arith)
  same_fault (Many k) (Byte m) a b e = absurd (omega arith)
  same_fault (Many k) (Early m) a b e = absurd (omega arith)
  same_fault (Many k) (Places m) a b e = absurd (omega arith)
  same_fault (Many k) (Unrung m) a b e = absurd (omega arith)
  same_fault (Many k) (Many m) a b e = ap Many (omega (arith, begins_late t j k m a.0 b.0 a.1 b.1, begins_late t j m k b.0 a.0 b.1 a.1))
