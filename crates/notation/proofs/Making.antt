-- The places made in a change, one written place after another, and what is left of a change to read.
use Rattle.std.proofs.Common.{◌≡◌, ℕ, ◌+◌, ◌-◌, ◌%◌, ◌<◌, ◌≤◌, Bool, true, false, cond, ◌&&◌, ◌||◌, Some, None, Option, eqb, ltb, leb, ◌⊎◌, List, [], ◌∷◌, ◌++◌, length, get_or, take, drop, set, sym, refl, ap, ◌∙◌, ⊎_elim, arith}
use Rattle.notation.specs.Changes.{ascend, last, has, making, made, crosses}
use Rattle.std.proofs.lemmas.List.FromFn.{fill_by_all, get_or-map-range_with_len}
use Rattle.std.proofs.lemmas.List.{append_assoc, append-nil, drop_all, drop_more, get_or-set_other, get_or-set_same, length-set, take_all, take_more}
use Rattle.std.proofs.lemmas.Bool.{cases_eq, eq-eqb, ne_eqb, lt-ltb, le-ltb, le-leb, lt-leb, and_left, and_right}
use Rattle.std.proofs.lemmas.Option.{same_Some}
use Rattle.std.specs.List.{slice_get}
use Rattle.std.specs.Option.{option_or}

-- one more place made: a change depends only on which places there are
making_set : (n p : ℕ) (ps qs : List ℕ) → 1 ≤ p → p ≤ 12 → ((q : ℕ) → has q qs ≡ (eqb q p || has q ps)) → set (making n ps) (p - 1) true ≡ making n qs
making_set n p ps qs lo hi also =
    let m = making n ps in
    fill_by_all (λ i. has (1 + i) qs || ltb n (1 + i)) (set m (p - 1) true) 12 false (length-set m (p - 1) true)
    (λ i l.
    let q = also (1 + i) in
    ⊎_elim
    (λ e. let here = eq-eqb (1 + i) p (omega arith) in ap (λ k. get_or (set m (p - 1) true) k false) e ∙ (get_or-set_same m (p - 1) true false (omega arith) ∙ rw (q, here) refl))
    (λ ne. let other = ne_eqb (1 + i) p (λ e. ne (omega arith)) in get_or-set_other m (p - 1) i true false ne ∙ (get_or-map-range_with_len (λ q. has q ps || ltb n q) 1 12 i (1 + i) false l refl ∙ rw (q, other) refl))
    (cases_eq i (p - 1)))

-- the order of two tests does not matter, in each case of the two
or_over : (a b c : Bool) → (a || (b || c)) ≡ (b || (a || c))
or_over true true c = refl
or_over true false c = refl
or_over false b c = refl

-- a place behind the others is there as well as one in front, since the tests change places one by one
has_push : (p : ℕ) (ps : List ℕ) (q : ℕ) → has q (ps ++ p ∷ []) ≡ (eqb q p || has q ps)
has_push p [] q = refl
has_push p (x ∷ ps) q = ap (λ b. eqb q x || b) (has_push p ps q) ∙ or_over (eqb q x) (eqb q p) (has q ps)

-- a place behind the others is the last, whatever stands before it
last_push : (a p : ℕ) (ps : List ℕ) → last a (ps ++ p ∷ []) ≡ p
last_push a p [] = refl
last_push a p (x ∷ ps) = last_push x p ps

module _ (m : List Bool) (p : ℕ) (crossed : Bool) (inside : p < length m) where
  -- what is left begins with the place at p
  here : (b : Bool) → get_or m p false ≡ b → drop p m ≡ b ∷ drop (p + 1) m
  here b e = drop_more m p false inside ∙ ap (λ t. t ∷ drop (p + 1) m) e

  -- a place made stays, and says nothing of those above
  pub crosses_stay : get_or m p false ≡ true → crosses (drop p m) crossed ≡ crosses (drop (p + 1) m) crossed
  unfolding crosses
  crosses_stay e = ap (λ l. crosses l crossed) (here true e)

  -- two places not made cross
  pub crosses_both : p + 1 < length m → get_or m p false ≡ false → get_or m (p + 1) false ≡ false → crosses (drop p m) crossed ≡ crosses (drop (p + 2) m) true
  unfolding crosses
  crosses_both l e f =
      let two : p + 1 + 1 ≡ p + 2 = omega arith in
      let next : drop (p + 1) m ≡ false ∷ drop (p + 2) m = drop_more m (p + 1) false l ∙ (λ i. f i ∷ drop (two i) m) in
      ap (λ l. crosses l crossed) (here false e ∙ ap (λ l. false ∷ l) next)

  -- a place not made below one that is made is left over
  pub crosses_apart : p + 1 < length m → get_or m p false ≡ false → get_or m (p + 1) false ≡ true → crosses (drop p m) crossed ≡ false
  unfolding crosses
  crosses_apart l e f =
      let next : drop (p + 1) m ≡ true ∷ drop (p + 1 + 1) m = drop_more m (p + 1) false l ∙ ap (λ t. t ∷ drop (p + 1 + 1) m) f in
      ap (λ l. crosses l crossed) (here false e ∙ ap (λ l. false ∷ l) next)

  -- so is the highest place if it is not made, since nothing is left above it
  pub crosses_alone : length m ≤ p + 1 → get_or m p false ≡ false → crosses (drop p m) crossed ≡ false
  unfolding crosses
  crosses_alone l e = ap (λ l. crosses l crossed) (here false e ∙ ap (λ l. false ∷ l) (drop_all (p + 1) m l))

-- at the end nothing is left to read, so it is known whether a pair has crossed
pub crosses_end : (m : List Bool) (p : ℕ) (crossed : Bool) → length m ≤ p → crosses (drop p m) crossed ≡ crossed
unfolding crosses
crosses_end m p crossed l = ap (λ l. crosses l crossed) (drop_all p m l)

-- the first i places written are made; f is the first of them and p the last; and the rest ascends above p if all do
pub record Placing (n : ℕ) (ws : List ℕ) (i : ℕ) (m : List Bool) (f : Option ℕ) (p : ℕ) : Type 0 where
  pub so_far : m ≡ making n (take i ws)
  pub first : f ≡ slice_get (take i ws) 0
  pub latest : p ≡ last 0 (take i ws)
  pub rest : ascend n 0 ws ≡ ascend n p (drop i ws)
  pub within : p ≤ n

first_push : (ps : List ℕ) (p : ℕ) → option_or (slice_get ps 0) (Some p) ≡ slice_get (ps ++ p ∷ []) 0
first_push [] p = refl
first_push (x ∷ ps) p = refl

module _ (n : ℕ) (ws : List ℕ) (i : ℕ) (m : List Bool) (f : Option ℕ) (p : ℕ) (r : Placing n ws i m f p) where
  module _ (w : ℕ) (inside : i < length ws) (next : get_or ws i 0 ≡ w) where
    -- the places so far, with the next one
    written_on : take (i + 1) ws ≡ take i ws ++ w ∷ []
    written_on = take_more ws i 0 inside ∙ ap (λ x. take i ws ++ x ∷ []) next

    -- all ascend if the next place is above p and on the stage, and the rest ascends above it
    next_test : ascend n 0 ws ≡ (ltb p w && (leb w n && ascend n w (drop (i + 1) ws)))
    next_test = r.rest ∙ ap (ascend n p) (drop_more ws i 0 inside ∙ ap (λ x. x ∷ drop (i + 1) ws) next)

    -- one more place, above the last and on the stage: both its tests are true, and it is made and the last
    pub placing_more : p < w → w ≤ n → n ≤ 12 → Placing n ws (i + 1) (set m (w - 1) true) (option_or f (Some w)) w
    placing_more above on top =
        record {
          so_far =
              ap (λ l. set l (w - 1) true) r.so_far
              ∙ making_set n w (take i ws) (take (i + 1) ws) (omega arith) (omega arith) (λ q. ap (has q) written_on ∙ has_push w (take i ws) q);
          first = ap (λ o. option_or o (Some w)) r.first ∙ (first_push (take i ws) w ∙ sym (ap (λ l. slice_get l 0) written_on));
          latest = sym (ap (last 0) written_on ∙ last_push 0 w (take i ws));
          rest = next_test ∙ rw (lt-ltb p w above, le-leb w n on);
          within = on;
        }

    -- a place not above the last, or past the stage: one of its tests is false, so they do not ascend
    pub placing_refused : (w ≤ p) ⊎ (n < w) → ascend n 0 ws ≡ false
    placing_refused h =
        next_test ∙ ⊎_elim (λ low. and_left (ltb p w) (leb w n && ascend n w (drop (i + 1) ws)) (le-ltb p w low))
        (λ high. and_right (ltb p w) (leb w n && ascend n w (drop (i + 1) ws)) (and_left (leb w n) (ascend n w (drop (i + 1) ws)) (lt-leb w n high))) h

  -- after all places nothing is left, so all are made, and they ascend
  pub placing_all : length ws ≤ i → (ascend n 0 ws ≡ true) × (m ≡ making n ws) × (f ≡ slice_get ws 0) × (p ≡ last 0 ws)
  placing_all l =
      let all : take i ws ≡ ws = take_all i ws l in
      (r.rest ∙ ap (ascend n p) (drop_all i ws l), r.so_far ∙ ap (making n) all, r.first ∙ ap (λ x. slice_get x 0) all, r.latest ∙ ap (last 0) all)

-- where no place is written, none is made at the ends
pub no_ends : (n : ℕ) (ws : List ℕ) (m : List Bool) → None ≡ slice_get ws 0 → m ≡ making n ws → m ≡ made n ws
no_ends n [] m e is = is
no_ends n (w ∷ ws) m e is = cc

module _ (n : ℕ) (low : 4 ≤ n) (high : n ≤ 12) where
  -- place 1 made, or not, is place 1 in front of the places, or not
  front_made : (b : Bool) (ws : List ℕ) → cond b (set (making n ws) 0 true) (making n ws) ≡ making n (cond b (1 ∷ []) [] ++ ws)
  front_made true ws = making_set n 1 ws (1 ∷ ws) (omega arith) (omega arith) (λ q. refl)
  front_made false ws = refl

  -- place n made, or not, is place n behind the places, or not
  back_made : (b : Bool) (ws : List ℕ) → cond b (set (making n ws) (n - 1) true) (making n ws) ≡ making n (ws ++ cond b (n ∷ []) [])
  back_made true ws = making_set n n ws (ws ++ n ∷ []) (omega arith) (omega arith) (has_push n ws)
  back_made false ws = ap (making n) (sym (append-nil ws))

  -- with the places at the two ends the change is made, since its places are those in front, those written and those behind
  pub with_ends : (ws : List ℕ) (first p : ℕ) (m f b : List Bool) → Some first ≡ slice_get ws 0 → p ≡ last 0 ws → m ≡ making n ws
      → f ≡ cond (eqb (first % 2) 0) (set m 0 true) m → b ≡ cond (eqb ((n - p) % 2) 1) (set f (n - 1) true) f → b ≡ made n ws
  with_ends [] first p m f b at_first at_last is front back = cc
  with_ends (w ∷ ws) first p m f b at_first at_last is front back =
      let even : Bool = eqb (w % 2) 0 in
      let odd : Bool = eqb ((n - last w ws) % 2) 1 in
      let fronted : List ℕ = cond even (1 ∷ []) [] ++ (w ∷ ws) in
      let begins : first ≡ w = same_Some first w at_first in
      let front_is : f ≡ making n fronted = front ∙ ((λ i. cond (eqb (begins i % 2) 0) (set (is i) 0 true) (is i)) ∙ front_made even (w ∷ ws)) in
      back ∙ ((λ i. cond (eqb ((n - at_last i) % 2) 1) (set (front_is i) (n - 1) true) (front_is i))
      ∙ (back_made odd fronted ∙ ap (making n) (append_assoc (cond even (1 ∷ []) []) (w ∷ ws) (cond odd (n ∷ []) []))))
