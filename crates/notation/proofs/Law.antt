-- The law of notations: the reading of a text tells its changes, or its first fault.
use Rattle.std.proofs.Common.{◌≡◌, ℕ, suc, ◌+◌, ◌-◌, ◌<◌, ◌≤◌, Bool, true, false, cond, ltb, ◌⊎◌, List, [], ◌∷◌, ◌++◌, map, length, get_or, take, drop, sym, refl, ap, ◌∙◌, inl, inr, add-one, arith}
use Rattle.rows.specs.Text.{named}
use Rattle.std.proofs.lemmas.List.{length_push, length-drop, take_all}
use Rattle.std.proofs.lemmas.Bool.{cases_lt, ltb-true, ltb-false}
use Rattle.notation.specs.Causes.{number}
use Rattle.notation.specs.Changes.{ascending, made, can_ring}
use Rattle.notation.specs.Faults.{Shows, First, Right}
use Rattle.notation.specs.declared.fault.Fault.{Fault}
use Rattle.notation.specs.declared.fault.Fault.TheVariants.{Byte, Early, Places, Unrung, Many}
use Rattle.notation.proofs.Following.{is_notation, goes_on, not_rejected, halted}
use Rattle.notation.specs.Reading.{Kind, Seen, State, Step, goes, halts, Outcome, read, stopped, kind, seeing, start, add, close, all_changes, step, then, behind_run, ended, done, reading, outcome}
use Rattle.notation.proofs.Shape.{shape, walk, grown, shut, Accepts, means, kind_bell}
use Rattle.notation.proofs.Showing.{Here, Ending, Reaches, Whole, Past, number_range, shows_inside, raise, next, not_byte, not_early, seen_by, accepted, nothing, within, shows_places, shows_unrung, not_places, not_unrung, shows_many, not_many, not_whole, cross_ending, run_ending, walked_next, at_byte, same_fault}
use Rattle.notation.proofs.Spelling.{told, same_spelled}

-- what the reading of a text says of it
abbrev pub Told : ℕ → List ℕ → Outcome → Type 0
Told n t (read ws) = Right n t (map (made n) ws)
Told n t (stopped f) = First n t f

-- the least number that a fault may have where the walk stands: a cross is checked already
abbrev pending : Seen → ℕ
pending Seen.fresh = 2
pending Seen.signed = 2
pending Seen.crossed = 5
pending (Seen.running p ws) = 2
pending Seen.pointed = 2

-- no block ends with this byte
abbrev Inner : Kind → Type 0
Inner (Kind.bell v) = Unit {0}
Inner Kind.cross = Unit {0}
Inner Kind.point = Unit {0}
Inner Kind.comma = ⊥
Inner (Kind.sign s) = Unit {0}
Inner Kind.other = Unit {0}

-- no run goes on with this byte
abbrev Breaks : Kind → Type 0
Breaks (Kind.bell v) = ⊥
Breaks Kind.cross = Unit {0}
Breaks Kind.point = Unit {0}
Breaks Kind.comma = Unit {0}
Breaks (Kind.sign s) = Unit {0}
Breaks Kind.other = Unit {0}

-- a comma ends a block
inner : (b : ℕ) (k : Kind) → kind b ≡ k → Inner k → b ≡ 44 → ⊥
inner b k e c m = let q : k ≡ Kind.comma = sym e ∙ ap kind m in rw q at c

-- a byte with which no run goes on names no place
breaks : (b : ℕ) (k : Kind) → kind b ≡ k → Breaks k → named b ≡ 0
breaks b k e c = go (cases_lt 0 (named b))
  where
    go : (0 < named b) ⊎ (named b ≤ 0) → named b ≡ 0
    go (inl l) = let q : k ≡ Kind.bell (named b) = sym e ∙ kind_bell b l in absurd (rw q at c)
    go (inr l) = omega arith

module _ (n : ℕ) (t : List ℕ) where
  -- a fault that shows where nothing else is left comes first
  comes_first : (j : ℕ) (f : Fault) → Shows n t j f → Past n t j (number f) → First n t f
  comes_first j f s h = record { read = j; shows = s; first = h }

  -- a complete change is checked for its places, then for being rung
  checked : (j p : ℕ) (ws : List ℕ) (st : State) (m : ℕ) → Here t j st → Ending t j p ws st → Past n t j 2 → m ≤ 5
      → (3 < m → ascending n ws ≡ true) → (4 < m → can_ring (made n ws) ≡ true) → Past n t j m
  checked j p ws st m h z past l a c = raise n t j 2 m past none
    where
      none : (g : Fault) → Shows n t j g → 2 ≤ number g → number g < m → ⊥
      none (Byte k) s _ d = not_byte n t j st h k s
      none (Early k) s _ d = not_early n t j st h k (inr z.accepts) s
      none (Places q) s _ d = not_places n t j st h p ws z q (a d) s
      none (Unrung q) s _ d = not_unrung n t j st h p ws z q (c d) s
      none (Many q) s _ d = omega arith

  -- where no fault of blocks shows, nothing is left behind a change that is checked
  unless_many : (j : ℕ) → ((s : ℕ) → Shows n t j (Many s) → ⊥) → Past n t j 5 → Past n t j 6
  unless_many j no_many past = raise n t j 5 6 past none
    where
      none : (g : Fault) → Shows n t j g → 5 ≤ number g → number g < 6 → ⊥
      none (Byte k) s d _ = omega arith
      none (Early k) s d _ = omega arith
      none (Places q) s d _ = omega arith
      none (Unrung q) s d _ = omega arith
      none (Many q) s d _ = no_many q s

  module _ (K : Step → Outcome) (stops : (f : Fault) → First n t f → Told n t (K (halts f))) where
    -- a change is added, or one of its two faults comes first
    adding : (j p : ℕ) (ws : List ℕ) (st to : State) → Here t j st → Ending t j p ws st → Past n t j 2
        → (Past n t j 5 → Told n t (K (goes (grown ws to)))) → Told n t (K (add n p ws to))
    adding j p ws st to h z past on = go (ascending n ws) (can_ring (made n ws)) refl refl
      where
        go : (a c : Bool) → ascending n ws ≡ a → can_ring (made n ws) ≡ c → Told n t (K (cond a (cond c (goes (grown ws to)) (halts (Unrung p))) (halts (Places p))))
        go false c ea ec = stops (Places p) (comes_first j (Places p) (shows_places n t j st h p ws z ea) (checked j p ws st 3 h z past (omega arith) (λ d. absurd (omega arith)) (λ d. absurd (omega arith))))
        go true false ea ec = stops (Unrung p) (comes_first j (Unrung p) (shows_unrung n t j st h p ws z ec) (checked j p ws st 4 h z past (omega arith) (λ d. ea) (λ d. absurd (omega arith))))
        go true true ea ec = on (checked j p ws st 5 h z past (omega arith) (λ d. ea) (λ d. ec))

    -- a block is closed, or it has too many changes
    closing : (j i : ℕ) (st to : State) → Here t j st → Accepts st.seen → Whole t j → st.from ≡ to.from → told st ≡ all_changes to → Past n t j 5
        → (Past n t j 6 → Told n t (K (goes (shut i to)))) → Told n t (K (close i to))
    closing j i st to h a w f c past on = go (ltb 64 (length (all_changes to))) refl
      where
        go : (b : Bool) → ltb 64 (length (all_changes to)) ≡ b → Told n t (K (cond b (halts (Many to.from)) (goes (shut i to))))
        go true e = stops (Many to.from) (comes_first j (Many to.from) (rw (← f) (shows_many n t j st h a w (rw c (ltb-true 64 (length (all_changes to)) e)))) past)
        go false e = on (unless_many j (λ s. not_many n t j st h s (rw c (ltb-false 64 (length (all_changes to)) e))) past)

  -- what is read after j bytes and one more
  abbrev Onward : ℕ → List ℕ → Type 0
  Onward j bs = (st : State) → Here t (suc j) st → Past n t (suc j) (pending st.seen) → Told n t (reading n (suc j) (goes st) bs)

  module _ (j b : ℕ) (bs : List ℕ) (l : j < length t) (e : get_or t j 0 ≡ b) (on : Onward j bs) where
    module _ (k : Kind) (is : kind b ≡ k) (st : State) (h : Here t j st) where
      -- the walk after the byte
      stepped : walk 0 (goes start) (take (suc j) t) ≡ shape j k st.seen st
      stepped = walked_next t j b st h l e ∙ ap (λ (x : Kind). shape j x st.seen st) is

      -- a byte with which the walk halts is at fault
      refused : shape j k st.seen st ≡ halts (Byte j) → Past n t j 6 → First n t (Byte j)
      refused x past = comes_first (suc j) (Byte j)
          (l, omega arith, goes_on (take j t) st h.walked, λ g. let r = not_rejected (take (suc j) t) (rw add-one at g) in halted (sym (stepped ∙ x) ∙ r.1))
          (next n t j past)

      -- a byte within a block leaves its begin
      here_within : (to : State) → shape j k st.seen st ≡ goes to → to.from ≡ st.from → Inner k → Reaches (suc j) to.seen → Here t (suc j) to
      here_within to x f c r = record { inside = l; walked = stepped ∙ x; before = omega (arith, h.before); begins = rw f h.begins; no_comma = commas; reaches = r }
        where
          commas : (i : ℕ) → to.from ≤ i → i < suc j → get_or t i 0 ≡ 44 → ⊥
          commas i a d m = go (cases_lt i j)
            where
              go : (i < j) ⊎ (j ≤ i) → ⊥
              go (inl q) = h.no_comma i (rw f at a) q m
              go (inr q) = let s : i ≡ j = omega arith in inner b k is c (cc)

      -- behind a comma a block begins
      here_shut : (to : State) → shape j k st.seen st ≡ goes (shut (suc j) to) → k ≡ Kind.comma → Here t (suc j) (shut (suc j) to)
      here_shut to x c = record { inside = l; walked = stepped ∙ x; before = omega arith; begins = inr (omega arith, begun); no_comma = λ i a d m. omega arith; reaches = tt }
        where
          begun : get_or t (suc j - 1) 0 ≡ 44
          begun = let s : suc j - 1 ≡ j = omega arith in let m : b ≡ 44 = rw (is ∙ c) at (means b) in cc

      -- a byte within a block does not follow a whole one
      not_closed : Inner k → Accepts st.seen → Past n t j 5 → Past n t j 6
      not_closed c a past = unless_many j (λ s. not_whole n t j st h s whole) past
        where
          whole : Whole t j → ⊥
          whole (inl q) = omega arith
          whole (inr q) = inner b k is c (sym e ∙ q)

      -- a cross is added
      crossing : (to : State) → shape j k st.seen st ≡ goes (grown [] to) → to.from ≡ st.from → Inner k → Past n t j 6 → Told n t (reading n (suc j) (add n j [] to) bs)
      unfolding reading
      crossing to x f c past =
          let g = here_within (grown [] to) x f c tt in
          adding (λ s. reading n (suc j) s bs) (λ f z. z) (suc j) j [] (grown [] to) to g (cross_ending t j (grown [] to) refl) (next n t j past) (λ p. on (grown [] to) g p)

      -- a comma closes the block
      shutting : (to : State) → shape j k st.seen st ≡ goes (shut (suc j) to) → st.from ≡ to.from → told st ≡ all_changes to → k ≡ Kind.comma → Accepts st.seen → Past n t j 5
          → Told n t (reading n (suc j) (close (suc j) to) bs)
      unfolding reading
      shutting to x f c q a past =
          closing (λ s. reading n (suc j) s bs) (λ f z. z) j (suc j) st to h a (inr (e ∙ rw (is ∙ q) at (means b))) f c past
          (λ p. on (shut (suc j) to) (here_shut to x q) (next n t j p))

    module _ (st : State) where
      -- behind what no notation ends with, nothing shows before the next byte
      unended : (s : Seen) → (Accepts s → ⊥) → Here t j (seeing st s) → Past n t j 2 → Past n t j 6
      unended s a h past = raise n t j 2 6 past (λ g z _ _. nothing n t j (seeing st s) h l a g z)

      -- a bell character begins a run
      begins_run : (s : Seen) (v : ℕ) (is : kind b ≡ Kind.bell v) → Here t j (seeing st s) → shape j (Kind.bell v) s (seeing st s) ≡ goes (seeing st (Seen.running j (v ∷ []))) → Past n t j 6
          → Told n t (reading n (suc j) (goes (seeing st (Seen.running j (v ∷ [])))) bs)
      begins_run s v is h x past = on (seeing st (Seen.running j (v ∷ []))) (here_within (Kind.bell v) is (seeing st s) h (seeing st (Seen.running j (v ∷ []))) x refl tt (omega arith)) (next n t j past)

      -- the first byte of a block
      at_fresh : (k : Kind) → kind b ≡ k → Here t j (seeing st Seen.fresh) → Past n t j 6 → Told n t (reading n (suc j) (step n j k Seen.fresh (seeing st Seen.fresh)) bs)
      unfolding reading
      at_fresh (Kind.bell v) is h past = begins_run Seen.fresh v is h refl past
      at_fresh Kind.cross is h past = crossing Kind.cross is (seeing st Seen.fresh) h (seeing st Seen.fresh) refl refl tt past
      at_fresh Kind.point is h past = refused Kind.point is (seeing st Seen.fresh) h refl past
      at_fresh Kind.comma is h past = refused Kind.comma is (seeing st Seen.fresh) h refl past
      at_fresh (Kind.sign g) is h past = on _ (here_within (Kind.sign g) is (seeing st Seen.fresh) h _ refl refl tt tt) (next n t j past)
      at_fresh Kind.other is h past = refused Kind.other is (seeing st Seen.fresh) h refl past

      -- the first byte behind a sign
      at_signed : (k : Kind) → kind b ≡ k → Here t j (seeing st Seen.signed) → Past n t j 6 → Told n t (reading n (suc j) (step n j k Seen.signed (seeing st Seen.signed)) bs)
      unfolding reading
      at_signed (Kind.bell v) is h past = begins_run Seen.signed v is h refl past
      at_signed Kind.cross is h past = crossing Kind.cross is (seeing st Seen.signed) h (seeing st Seen.signed) refl refl tt past
      at_signed Kind.point is h past = refused Kind.point is (seeing st Seen.signed) h refl past
      at_signed Kind.comma is h past = refused Kind.comma is (seeing st Seen.signed) h refl past
      at_signed (Kind.sign g) is h past = refused (Kind.sign g) is (seeing st Seen.signed) h refl past
      at_signed Kind.other is h past = refused Kind.other is (seeing st Seen.signed) h refl past

      -- a byte behind a point
      at_pointed : (k : Kind) → kind b ≡ k → Here t j (seeing st Seen.pointed) → Past n t j 6 → Told n t (reading n (suc j) (step n j k Seen.pointed (seeing st Seen.pointed)) bs)
      unfolding reading
      at_pointed (Kind.bell v) is h past = begins_run Seen.pointed v is h refl past
      at_pointed Kind.cross is h past = refused Kind.cross is (seeing st Seen.pointed) h refl past
      at_pointed Kind.point is h past = refused Kind.point is (seeing st Seen.pointed) h refl past
      at_pointed Kind.comma is h past = refused Kind.comma is (seeing st Seen.pointed) h refl past
      at_pointed (Kind.sign g) is h past = refused (Kind.sign g) is (seeing st Seen.pointed) h refl past
      at_pointed Kind.other is h past = refused Kind.other is (seeing st Seen.pointed) h refl past

      -- a byte behind a cross
      at_crossed : (k : Kind) → kind b ≡ k → Here t j (seeing st Seen.crossed) → Past n t j 5 → Told n t (reading n (suc j) (step n j k Seen.crossed (seeing st Seen.crossed)) bs)
      unfolding reading
      at_crossed (Kind.bell v) is h past = begins_run Seen.crossed v is h refl (not_closed (Kind.bell v) is (seeing st Seen.crossed) h tt tt past)
      at_crossed Kind.cross is h past = crossing Kind.cross is (seeing st Seen.crossed) h (seeing st Seen.crossed) refl refl tt (not_closed Kind.cross is (seeing st Seen.crossed) h tt tt past)
      at_crossed Kind.point is h past = refused Kind.point is (seeing st Seen.crossed) h refl (not_closed Kind.point is (seeing st Seen.crossed) h tt tt past)
      at_crossed Kind.comma is h past = shutting Kind.comma is (seeing st Seen.crossed) h (seeing st Seen.crossed) refl refl refl refl tt past
      at_crossed (Kind.sign g) is h past = refused (Kind.sign g) is (seeing st Seen.crossed) h refl (not_closed (Kind.sign g) is (seeing st Seen.crossed) h tt tt past)
      at_crossed Kind.other is h past = refused Kind.other is (seeing st Seen.crossed) h refl (not_closed Kind.other is (seeing st Seen.crossed) h tt tt past)

      module _ (p : ℕ) (ws : List ℕ) (h : Here t j (seeing st (Seen.running p ws))) where
        -- a byte behind a run that is complete and checked
        behind : (k : Kind) → kind b ≡ k → Breaks k → Past n t j 5 → Told n t (reading n (suc j) (behind_run n j k (grown ws st)) bs)
        unfolding reading
        behind (Kind.bell v) is c past = absurd c
        behind Kind.cross is c past = crossing Kind.cross is (seeing st (Seen.running p ws)) h (grown ws st) refl refl tt (not_closed Kind.cross is (seeing st (Seen.running p ws)) h tt tt past)
        behind Kind.point is c past = on _ (here_within Kind.point is (seeing st (Seen.running p ws)) h _ refl refl tt tt) (next n t j (not_closed Kind.point is (seeing st (Seen.running p ws)) h tt tt past))
        behind Kind.comma is c past = shutting Kind.comma is (seeing st (Seen.running p ws)) h (grown ws st) refl refl refl refl tt past
        behind (Kind.sign g) is c past = refused (Kind.sign g) is (seeing st (Seen.running p ws)) h refl (not_closed (Kind.sign g) is (seeing st (Seen.running p ws)) h tt tt past)
        behind Kind.other is c past = refused Kind.other is (seeing st (Seen.running p ws)) h refl (not_closed Kind.other is (seeing st (Seen.running p ws)) h tt tt past)

        -- a run that is complete is checked, and then the byte
        completed : (k : Kind) → kind b ≡ k → Breaks k → Past n t j 2 → Told n t (reading n (suc j) (then (add n p ws (seeing st (Seen.running p ws))) (behind_run n j k)) bs)
        unfolding reading
        completed k is c past = adding (λ s. reading n (suc j) (then s (behind_run n j k)) bs) (λ f z. z) j p ws (seeing st (Seen.running p ws)) (seeing st (Seen.running p ws)) h
            (run_ending t j p ws (seeing st (Seen.running p ws)) refl h.reaches (inr (rw e (breaks b k is c)))) past (λ q. behind k is c q)

        -- a byte in or behind a run
        at_running : (k : Kind) → kind b ≡ k → Past n t j 2 → Told n t (reading n (suc j) (step n j k (Seen.running p ws) (seeing st (Seen.running p ws))) bs)
        at_running (Kind.bell v) is past =
            let r : p + length ws ≡ j = h.reaches in
            let m : 0 < named b = (rw is at (means b)).0 in
            on (seeing st (Seen.running p (ws ++ v ∷ []))) (here_within (Kind.bell v) is (seeing st (Seen.running p ws)) h _ refl refl tt (omega (arith, length_push ws v)))
            (next n t j (raise n t j 2 6 past (λ g z _ _. within n t j (seeing st (Seen.running p ws)) h l p ws refl (rw e m) g z)))
        at_running Kind.cross is past = completed Kind.cross is tt past
        at_running Kind.point is past = completed Kind.point is tt past
        at_running Kind.comma is past = completed Kind.comma is tt past
        at_running (Kind.sign g) is past = completed (Kind.sign g) is tt past
        at_running Kind.other is past = completed Kind.other is tt past

      -- one byte, whatever stands before it
      turn : (s : Seen) → Here t j (seeing st s) → Past n t j (pending s) → Told n t (reading n (suc j) (step n j (kind b) s (seeing st s)) bs)
      turn Seen.fresh h past = at_fresh (kind b) refl h (unended Seen.fresh (λ x. x) h past)
      turn Seen.signed h past = at_signed (kind b) refl h (unended Seen.signed (λ x. x) h past)
      turn Seen.crossed h past = at_crossed (kind b) refl h past
      turn (Seen.running p ws) h past = at_running p ws h (kind b) refl past
      turn Seen.pointed h past = at_pointed (kind b) refl h (unended Seen.pointed (λ x. x) h past)

  module _ (j : ℕ) (ends : j ≡ length t) (st : State) where
    -- at the end, the bytes before j are the text
    all_taken : take j t ≡ t
    all_taken = take_all j t (omega arith)

    -- a text that ends where no notation may end is too short
    too_early : (s : Seen) → (Accepts s → ⊥) → Here t j (seeing st s) → Past n t j 2 → First n t (Early j)
    too_early s a h past = comes_first j (Early j)
        (ends, refl, rw all_taken at (goes_on (take j t) (seeing st s) h.walked), λ z. a (accepted n t j (seeing st s) h z.0 (z.1 ∙ sym all_taken))) past

    -- a text that ends well has the changes that the state knows, and no fault
    ends_well : (s : Seen) → Accepts s → Here t j (seeing st s) → Past n t j 6 → Right n t (map (made n) (told (seeing st s)))
    ends_well s a h past =
        let (x, e) = is_notation (take j t) (seeing st s) h.walked a in
        record { tree = x; spells = e ∙ all_taken; means = ap (λ (y : List (List ℕ)). map (made n) y) (seen_by n t j (seeing st s) h x e).changes; faultless = none }
      where
        none : (i : ℕ) (g : Fault) → Shows n t i g → ⊥
        none i g z = go (past i g z)
          where
            go : (j < i) ⊎ ((i ≡ j) × (6 ≤ number g)) → ⊥
            go (inl q) = omega (arith, shows_inside n t i g z)
            go (inr q) = omega (arith, number_range g)

    -- the end of the text, whatever stands before it
    at_end : (s : Seen) → Here t j (seeing st s) → Past n t j (pending s) → Told n t (ended n j s (seeing st s))
    at_end Seen.fresh h past = too_early Seen.fresh (λ x. x) h past
    at_end Seen.signed h past = too_early Seen.signed (λ x. x) h past
    at_end Seen.crossed h past = closing done (λ f z. z) j j (seeing st Seen.crossed) (seeing st Seen.crossed) h tt (inl ends) refl refl past (λ q. ends_well Seen.crossed tt h q)
    at_end (Seen.running p ws) h past =
        adding (λ s. done (then s (close j))) (λ f z. z) j p ws (seeing st (Seen.running p ws)) (seeing st (Seen.running p ws)) h
        (run_ending t j p ws (seeing st (Seen.running p ws)) refl h.reaches (inl ends)) past
        (λ r. closing done (λ f z. z) j j (seeing st (Seen.running p ws)) (grown ws st) h tt (inl ends) refl refl r (λ q. ends_well (Seen.running p ws) tt h q))
    at_end Seen.pointed h past = too_early Seen.pointed (λ x. x) h past

  -- the rest of the text, byte by byte
  law_from : (rest : List ℕ) (j : ℕ) (st : State) → drop j t ≡ rest → Here t j st → Past n t j (pending st.seen) → Told n t (reading n j (goes st) rest)
  unfolding reading
  law_from [] j st e h past = at_end j (omega (arith, h.inside, length-drop j t, ap (λ (y : List ℕ). length y) e)) st st.seen h past
  law_from (b ∷ bs) j st e h past =
      let r = at_byte t j b bs e in
      turn j b bs r.0 r.1 (λ st' h' p'. law_from bs (suc j) st' r.2 h' p') st st.seen h past

-- the reading of a text gives its changes if it has no fault, and else its first fault
pub law : (n : ℕ) (t : List ℕ) → Told n t (outcome n t)
law n t = law_from n t t 0 start refl
    (record { inside = omega arith; walked = refl; before = omega arith; begins = inl refl; no_comma = λ k a b c. omega arith; reaches = tt })
    (λ i g s. first i g)
  where
    first : (i : ℕ) (g : Fault) → (0 < i) ⊎ ((i ≡ 0) × (2 ≤ number g))
    first i g = go (cases_lt 0 i)
      where
        go : (0 < i) ⊎ (i ≤ 0) → (0 < i) ⊎ ((i ≡ 0) × (2 ≤ number g))
        go (inl l) = inl l
        go (inr l) = inr (omega arith, (number_range g).0)

-- a text has at most one list of changes
pub only_right : (n : ℕ) (t : List ℕ) (a b : List (List Bool)) → Right n t a → Right n t b → a ≡ b
only_right n t a b x y = x.means ∙ ap (λ (z : List (List ℕ)). map (made n) z) (same_spelled x.tree y.tree t x.spells y.spells).0 ∙ sym y.means

-- at most one fault comes first
pub only_first : (n : ℕ) (t : List ℕ) (f g : Fault) → First n t f → First n t g → f ≡ g
only_first n t f g x y = go (x.first y.read g y.shows) (y.first x.read f x.shows)
  where
    go : (x.read < y.read) ⊎ ((y.read ≡ x.read) × (number f ≤ number g)) → (y.read < x.read) ⊎ ((x.read ≡ y.read) × (number g ≤ number f)) → f ≡ g
    go (inl a) (inl b) = absurd (omega arith)
    go (inl a) (inr b) = absurd (omega arith)
    go (inr a) (inl b) = absurd (omega arith)
    go (inr a) (inr b) = same_fault n t x.read f g x.shows (rw a.0 at y.shows) (omega arith)

-- a text with changes has no fault
pub right_or_first : (n : ℕ) (t : List ℕ) (a : List (List Bool)) (f : Fault) → Right n t a → First n t f → ⊥
right_or_first n t a f x y = x.faultless y.read f y.shows
