-- What ringing a change does to the bells.
use Rattle.std.proofs.Common.{◌≡◌, ℕ, zero, suc, ◌+◌, ◌-◌, ◌<◌, ◌≤◌, Bool, true, false, cond, eqb, List, [], ◌∷◌, ◌++◌, map, length, get_or, take, drop, set, sym, refl, ap, ◌∙◌, arith}
use Rattle.notation.specs.Changes.{ChangeOn, crosses, can_ring, rung}
use Rattle.rows.proofs.Group.{times_rounds}
use Rattle.rows.proofs.Members.{member, row_from}
use Rattle.std.proofs.lemmas.List.{append_assoc, append-nil, drop_all, drop-drop, drop_more, drop-set-lt, length-drop, length-set, take_all, take_more, take_more_set}
use Rattle.rows.specs.Rows.{rounds, bell_in, times, count, RowOf, On}

-- crossing changes no length
pub rung_length : (m : List Bool) (xs : List ℕ) → length (rung m xs) ≡ length xs
unfolding rung
rung_length [] xs = refl
rung_length (true ∷ ms) [] = refl
rung_length (true ∷ ms) (x ∷ xs) = ap suc (rung_length ms xs)
rung_length (false ∷ []) xs = refl
rung_length (false ∷ (true ∷ ms)) xs = refl
rung_length (false ∷ (false ∷ ms)) [] = refl
rung_length (false ∷ (false ∷ ms)) (x ∷ []) = refl
rung_length (false ∷ (false ∷ ms)) (x ∷ (y ∷ xs)) = ap (λ k. suc (suc k)) (rung_length ms xs)

swap_count : (b c : Bool) (k : ℕ) → cond b (suc (cond c (suc k) k)) (cond c (suc k) k) ≡ cond c (suc (cond b (suc k) k)) (cond b (suc k) k)
swap_count true true k = refl
swap_count true false k = refl
swap_count false true k = refl
swap_count false false k = refl

-- crossing changes no count
pub rung_count : (v : ℕ) (m : List Bool) (xs : List ℕ) → count v (rung m xs) ≡ count v xs
unfolding rung
rung_count v [] xs = refl
rung_count v (true ∷ ms) [] = refl
rung_count v (true ∷ ms) (x ∷ xs) = ap (λ k. cond (eqb x v) (suc k) k) (rung_count v ms xs)
rung_count v (false ∷ []) xs = refl
rung_count v (false ∷ (true ∷ ms)) xs = refl
rung_count v (false ∷ (false ∷ ms)) [] = refl
rung_count v (false ∷ (false ∷ ms)) (x ∷ []) = refl
rung_count v (false ∷ (false ∷ ms)) (x ∷ (y ∷ xs)) =
    ap (λ k. cond (eqb y v) (suc (cond (eqb x v) (suc k) k)) (cond (eqb x v) (suc k) k)) (rung_count v ms xs) ∙ swap_count (eqb y v) (eqb x v) (count v xs)

-- no bell comes in that was not there: it stood at some index
pub rung_from : (m : List Bool) (xs : List ℕ) (i : ℕ) → i < length xs → (k : ℕ) × (k < length xs) × (get_or (rung m xs) i 0 ≡ get_or xs k 0)
unfolding rung
rung_from [] xs i l = (i, l, refl)
rung_from (true ∷ ms) [] i l = absurd (omega arith)
rung_from (true ∷ ms) (x ∷ xs) zero l = (0, omega arith, refl)
rung_from (true ∷ ms) (x ∷ xs) (suc i) l = let k = rung_from ms xs i (omega arith) in (suc k.0, (let h = k.1 in omega arith), k.2)
rung_from (false ∷ []) xs i l = (i, l, refl)
rung_from (false ∷ (true ∷ ms)) xs i l = (i, l, refl)
rung_from (false ∷ (false ∷ ms)) [] i l = absurd (omega arith)
rung_from (false ∷ (false ∷ ms)) (x ∷ []) i l = (i, l, refl)
rung_from (false ∷ (false ∷ ms)) (x ∷ (y ∷ xs)) zero l = (1, omega arith, refl)
rung_from (false ∷ (false ∷ ms)) (x ∷ (y ∷ xs)) (suc zero) l = (0, omega arith, refl)
rung_from (false ∷ (false ∷ ms)) (x ∷ (y ∷ xs)) (suc (suc i)) l =
    let k = rung_from ms xs i (omega arith) in (suc (suc k.0), (let h = k.1 in omega arith), k.2)

-- a row rung is a row
pub rung_row : (n : ℕ) (m : List Bool) (a : List ℕ) → RowOf n a → RowOf n (rung m a)
rung_row n m a r =
    let x = member n a r in
    let at : (i : ℕ) → i < n → (k : ℕ) × (k < length a) × (get_or (rung m a) i 0 ≡ get_or a k 0) = λ i l. rung_from m a i (omega (arith, x.long)) in
    row_from n (rung m a) (record {
      long = rung_length m a ∙ x.long;
      low = λ i l. let k = at i l in rw k.2 (x.low k.0 (omega (arith, k.1, x.long)));
      high = λ i l. let k = at i l in rw k.2 (x.high k.0 (omega (arith, k.1, x.long)));
      once = λ v lo hi. rung_count v m a ∙ x.once v lo hi;
    })

-- which places cross does not depend on the bells
pub rung_map : (f : ℕ → ℕ) (m : List Bool) (xs : List ℕ) → rung m (map f xs) ≡ map f (rung m xs)
unfolding rung
rung_map f [] xs = refl
rung_map f (true ∷ ms) [] = refl
rung_map f (true ∷ ms) (x ∷ xs) = ap (λ ys. f x ∷ ys) (rung_map f ms xs)
rung_map f (false ∷ []) xs = refl
rung_map f (false ∷ (true ∷ ms)) xs = refl
rung_map f (false ∷ (false ∷ ms)) [] = refl
rung_map f (false ∷ (false ∷ ms)) (x ∷ []) = refl
rung_map f (false ∷ (false ∷ ms)) (x ∷ (y ∷ xs)) = ap (λ ys. f y ∷ (f x ∷ ys)) (rung_map f ms xs)

-- a row rung is the product of the row and the change rung on rounds
pub rung_product : (n : ℕ) (m : List Bool) (a : List ℕ) → length a ≡ n → rung m a ≡ times a (rung m (rounds n))
rung_product n m a l = ap (rung m) (sym (times_rounds n a l)) ∙ rung_map (bell_in a) m (rounds n)

-- a bell in a place made stays
pub rung_stays : (m : List Bool) (xs : List ℕ) (i : ℕ) → get_or m i true ≡ true → get_or (rung m xs) i 0 ≡ get_or xs i 0
unfolding rung
rung_stays [] xs i h = refl
rung_stays (true ∷ ms) [] i h = refl
rung_stays (true ∷ ms) (x ∷ xs) zero h = refl
rung_stays (true ∷ ms) (x ∷ xs) (suc i) h = rung_stays ms xs i h
rung_stays (false ∷ []) xs i h = refl
rung_stays (false ∷ (true ∷ ms)) xs i h = refl
rung_stays (false ∷ (false ∷ ms)) [] i h = refl
rung_stays (false ∷ (false ∷ ms)) (x ∷ []) i h = refl
rung_stays (false ∷ (false ∷ ms)) (x ∷ (y ∷ xs)) zero h = absurd (let z : ◌≡◌ {A = ℕ} 0 1 = cc in omega arith)
rung_stays (false ∷ (false ∷ ms)) (x ∷ (y ∷ xs)) (suc zero) h = absurd (let z : ◌≡◌ {A = ℕ} 0 1 = cc in omega arith)
rung_stays (false ∷ (false ∷ ms)) (x ∷ (y ∷ xs)) (suc (suc i)) h = rung_stays ms xs i h

-- so covers stay
pub rung_on : (n : ℕ) (m : List Bool) (a : List ℕ) → ChangeOn n m → On n a → On n (rung m a)
rung_on n m a c o p lo hi = rung_stays m a (p - 1) (c p lo hi) ∙ o p lo hi

-- what is left to read at place p, with a pair crossed before or not, can be rung
abbrev pub RestRings : List Bool → ℕ → Type 0
RestRings m p = (crossed : Bool) × (crosses (drop p m) crossed ≡ true)

-- the bells before place p have been rung, and those from p on wait
pub record Ringing (m : List Bool) (a b : List ℕ) (p : ℕ) : Type 0 where
  pub long : length b ≡ 12
  pub so_far : take p b ++ rung (drop p m) (drop p b) ≡ rung m a
  pub rest : RestRings m p

pub ringing_none : (m : List Bool) (a : List ℕ) → length a ≡ 12 → can_ring m ≡ true → Ringing m a a 0
unfolding can_ring
ringing_none m a l h = record { long = l; so_far = refl; rest = (false, h) }

pub ringing_all : (m : List Bool) (a b : List ℕ) (p : ℕ) → length m ≡ 12 → 12 ≤ p → Ringing m a b p → b ≡ rung m a
unfolding rung
ringing_all m a b p lm h r =
    let front : take p b ≡ b = take_all p b (omega (arith, r.long)) in
    let none : drop p m ≡ [] = drop_all p m (omega arith) in
    let behind : drop p b ≡ [] = drop_all p b (omega (arith, r.long)) in
    sym (append-nil b) ∙ ((λ i. sym front i ++ rung (sym none i) (sym behind i)) ∙ r.so_far)

module _ (m : List Bool) (a b : List ℕ) (p : ℕ) (lm : length m ≡ 12) (h : p < 12) (r : Ringing m a b p) where
  next_bell : drop p b ≡ get_or b p 0 ∷ drop (p + 1) b
  next_bell = drop_more b p 0 (omega (arith, r.long))

  -- a place made: its bell stays
  pub ringing_stay : get_or m p false ≡ true → Ringing m a b (p + 1)
  unfolding rung crosses
  ringing_stay made =
      let here : drop p m ≡ true ∷ drop (p + 1) m = drop_more m p false (omega arith) ∙ ap (λ t. t ∷ drop (p + 1) m) made in
      record {
        long = r.long;
        so_far =
            ap (λ f. f ++ rung (drop (p + 1) m) (drop (p + 1) b)) (take_more b p 0 (omega (arith, r.long)))
            ∙ append_assoc (take p b) (get_or b p 0 ∷ []) (rung (drop (p + 1) m) (drop (p + 1) b))
            ∙ (λ i. take p b ++ rung (sym here i) (sym next_bell i)) ∙ r.so_far;
        rest = (r.rest.0, ap (λ l. crosses l r.rest.0) (sym here) ∙ r.rest.1);
      }

  crossing : (l : List Bool) (c : Bool) → crosses (false ∷ l) c ≡ true → (l ≡ false ∷ drop 1 l) × (crosses (drop 1 l) true ≡ true)
  unfolding crosses
  crossing [] c e = absurd (let z : ◌≡◌ {A = ℕ} 0 1 = cc in omega arith)
  crossing (true ∷ l) c e = absurd (let z : ◌≡◌ {A = ℕ} 0 1 = cc in omega arith)
  crossing (false ∷ l) c e = (refl, e)

  -- a place not made: so is the next, since no place is left over
  pub both_cross : get_or m p false ≡ false → (p + 1 < 12) × (drop p m ≡ false ∷ (false ∷ drop (p + 2) m)) × (crosses (drop (p + 2) m) true ≡ true)
  both_cross open' =
      let here : drop p m ≡ false ∷ drop (p + 1) m = drop_more m p false (omega arith) ∙ ap (λ t. t ∷ drop (p + 1) m) open' in
      let next = crossing (drop (p + 1) m) r.rest.0 (ap (λ l. crosses l r.rest.0) (sym here) ∙ r.rest.1) in
      let two : drop 1 (drop (p + 1) m) ≡ drop (p + 2) m = drop-drop 1 (p + 1) m ∙ ap (λ k. drop k m) (let e : p + 1 + 1 ≡ p + 2 = omega arith in e) in
      let long : length (drop (p + 1) m) ≡ suc (length (drop (p + 2) m)) = ap length (next.0 ∙ ap (λ l. false ∷ l) two) in
      (omega (arith, length-drop (p + 1) m), here ∙ ap (λ l. false ∷ l) (next.0 ∙ ap (λ l. false ∷ l) two), ap (λ l. crosses l true) (sym two) ∙ next.1)

  -- and the two bells cross
  pub ringing_cross : (c : List ℕ) → get_or m p false ≡ false → c ≡ set (set b p (get_or b (p + 1) 0)) (p + 1) (get_or b p 0) → Ringing m a c (p + 2)
  unfolding rung
  ringing_cross c open' is =
      let next = both_cross open' in
      let inside = next.0 in
      let x : ℕ = get_or b p 0 in
      let y : ℕ = get_or b (p + 1) 0 in
      let first : List ℕ = set b p y in
      let one : length first ≡ 12 = length-set b p y ∙ r.long in
      let two : p + 2 ≡ p + 1 + 1 = omega arith in
      let front : take (p + 2) c ≡ take p b ++ (y ∷ (x ∷ [])) =
      ap (λ k. take k c) two ∙ ap (take (p + 1 + 1)) is ∙ take_more_set first (p + 1) x (omega arith)
      ∙ ap (λ l. l ++ x ∷ []) (take_more_set b p y (omega (arith, r.long))) ∙ append_assoc (take p b) (y ∷ []) (x ∷ []) in
      let back : drop (p + 2) c ≡ drop (p + 2) b =
      ap (drop (p + 2)) is ∙ drop-set-lt (p + 2) first (p + 1) x (omega arith) ∙ drop-set-lt (p + 2) b p y (omega arith) in
      let pair : drop p b ≡ x ∷ (y ∷ drop (p + 2) b) =
      next_bell ∙ ap (λ l. x ∷ l) (drop_more b (p + 1) 0 (omega (arith, r.long)) ∙ ap (λ k. y ∷ drop k b) (sym two)) in
      record {
        long = ap length is ∙ (length-set first (p + 1) x ∙ one);
        so_far =
            (λ i. front i ++ rung (drop (p + 2) m) (back i)) ∙ append_assoc (take p b) (y ∷ (x ∷ [])) (rung (drop (p + 2) m) (drop (p + 2) b))
            ∙ (λ i. take p b ++ rung (sym next.1 i) (sym pair i)) ∙ r.so_far;
        rest = (true, next.2);
      }
