-- Rows are a group under the product, and so are the rows on a stage.
use Rattle.std.proofs.Common.{◌≡◌, ℕ, suc, ◌+◌, ◌-◌, ◌<◌, ◌≤◌, eqb, List, length, get_or, set, sym, ap, ◌∙◌, arith, below_more}
use Rattle.rows.proofs.Members.{Member, member, place_of_holds, place_of_only, count_map, count_counting}
use Rattle.rows.proofs.Counts.{row_of_once}
use Rattle.rows.specs.Rows.{rounds, bell_in, times, place_of, inverse, RowOf, On}
use Rattle.std.proofs.lemmas.List.FromFn.{length-range_with_len, get_or-range_with_len, length-map-range_with_len, get_or-map-range_with_len}
use Rattle.std.proofs.lemmas.List.{ext_get_or, get_or-map, get_or-set_other, get_or-set_same, length-map}
use Rattle.std.proofs.lemmas.Bool.Decides.{same_from_decides, Decides-eqb, Decides-like}
use Rattle.std.specs.List.{range_with_len}

-- two tests that hold of the same give the same answer
same_test : (a b c d : ℕ) → (a ≡ b → c ≡ d) → (c ≡ d → a ≡ b) → eqb a b ≡ eqb c d
same_test a b c d f g = same_from_decides (eqb a b) (eqb c d) (Decides-like (eqb a b) f g (Decides-eqb a b)) (Decides-eqb c d)

module _ (n : ℕ) (a : List ℕ) (r : RowOf n a) where
  m : Member n a
  m = member n a r

  -- the bell in a place
  pub bell_low : (p : ℕ) → 1 ≤ p → p ≤ n → 1 ≤ bell_in a p
  bell_low p lo hi = m.low (p - 1) (omega arith)

  pub bell_high : (p : ℕ) → 1 ≤ p → p ≤ n → bell_in a p ≤ n
  bell_high p lo hi = m.high (p - 1) (omega arith)

  -- the place of the bell in place p is p
  pub place_of_bell : (p : ℕ) → 1 ≤ p → p ≤ n → place_of (bell_in a p) a ≡ p
  place_of_bell p lo hi =
      let in' : p - 1 < length a = omega (arith, m.long) in
      place_of_only a (p - 1) in' (m.once (bell_in a p) (bell_low p lo hi) (bell_high p lo hi)) ∙ omega arith

  -- the bell in the place of v is v
  pub bell_in_place : (v : ℕ) → 1 ≤ v → v ≤ n → (1 ≤ place_of v a) × (place_of v a ≤ n) × (bell_in a (place_of v a) ≡ v)
  bell_in_place v lo hi =
      let one = m.once v lo hi in
      let there = place_of_holds v a (omega arith) in
      let long = m.long in
      (there.0, omega arith, there.2)

  pub inverse_at : (v : ℕ) → 1 ≤ v → v ≤ n → bell_in (inverse n a) v ≡ place_of v a
  inverse_at v lo hi = get_or-map-range_with_len (λ w. place_of w a) 1 n (v - 1) v 0 (omega arith) (omega arith)

  -- bell p stands in place a(p) of the inverse
  pub inverse_places : (p : ℕ) → 1 ≤ p → p ≤ n → bell_in (inverse n a) (bell_in a p) ≡ p
  inverse_places p lo hi = inverse_at (bell_in a p) (bell_low p lo hi) (bell_high p lo hi) ∙ place_of_bell p lo hi

pub times_length : (a b : List ℕ) → length (times a b) ≡ length b
times_length a b = length-map b (bell_in a)

pub times_at : (n : ℕ) (a b : List ℕ) → length b ≡ n → (p : ℕ) → 1 ≤ p → p ≤ n → bell_in (times a b) p ≡ bell_in a (bell_in b p)
times_at n a b long p lo hi = get_or-map (bell_in a) b (p - 1) 0 0 (omega arith)

-- two rows of n places are equal where they are equal in each place
pub same_row : (n : ℕ) (a b : List ℕ) → length a ≡ n → length b ≡ n → ((p : ℕ) → 1 ≤ p → p ≤ n → bell_in a p ≡ bell_in b p) → a ≡ b
same_row n a b la lb h = ext_get_or 0 a b (la ∙ sym lb) (λ i l.
    let e : i ≡ suc i - 1 = omega arith in
    ap (λ k. get_or a k 0) e ∙ (h (suc i) (omega arith) (omega arith) ∙ ap (λ k. get_or b k 0) (sym e)))

pub rounds_at : (n p : ℕ) → 1 ≤ p → p ≤ n → bell_in (rounds n) p ≡ p
rounds_at n p lo hi = get_or-range_with_len 1 n (p - 1) 0 (omega arith) ∙ omega arith

-- bell v stands once in a product: in the one place where the second row has the place of v in the first
pub times_row : (n : ℕ) (a b : List ℕ) → RowOf n a → RowOf n b → RowOf n (times a b)
times_row n a b ra rb =
    let mb = member n b rb in
    let lb = mb.long in
    row_of_once n (times a b) (record {
      size = times_length a b ∙ lb;
      once = λ v lo hi.
          let there = bell_in_place n a ra v lo hi in
          count_map (bell_in a) v (place_of v a) b (λ i l.
          let k : i < n = omega arith in
          same_test (bell_in a (get_or b i 0)) v (get_or b i 0) (place_of v a)
          (λ e. sym (place_of_bell n a ra (get_or b i 0) (mb.low i k) (mb.high i k)) ∙ ap (λ w. place_of w a) e)
          (λ e. ap (bell_in a) e ∙ there.2))
          ∙ mb.once (place_of v a) there.0 there.1;
    })

pub inverse_row : (n : ℕ) (a : List ℕ) → RowOf n a → RowOf n (inverse n a)
inverse_row n a r =
    row_of_once n (inverse n a) (record {
      size = length-map-range_with_len (λ w. place_of w a) 1 n;
      once = λ p lo hi.
          count_map (λ w. place_of w a) p (bell_in a p) (range_with_len 1 n) (λ i l.
          let k : i < n = rw length-range_with_len at l in
          let w : get_or (range_with_len 1 n) i 0 ≡ 1 + i = get_or-range_with_len 1 n i 0 k in
          rw w (same_test (place_of (1 + i) a) p (1 + i) (bell_in a p)
          (λ e. sym (bell_in_place n a r (1 + i) (omega arith) (omega arith)).2 ∙ ap (bell_in a) e)
          (λ e. ap (λ v. place_of v a) e ∙ place_of_bell n a r p lo hi)))
          ∙ count_counting (bell_in a p) 1 n (bell_low n a r p lo hi) (let h = bell_high n a r p lo hi in omega arith);
    })

pub inverse_length : (n : ℕ) (a : List ℕ) → length (inverse n a) ≡ n
inverse_length n a = length-map-range_with_len (λ w. place_of w a) 1 n

pub associative : (n : ℕ) (a b c : List ℕ) → length b ≡ n → RowOf n c → times (times a b) c ≡ times a (times b c)
associative n a b c lb rc =
    let mc = member n c rc in
    let lc = mc.long in
    same_row n (times (times a b) c) (times a (times b c)) (times_length (times a b) c ∙ lc) (times_length a (times b c) ∙ times_length b c ∙ lc) (λ p lo hi.
    times_at n (times a b) c lc p lo hi ∙ times_at n a b lb (bell_in c p) (bell_low n c rc p lo hi) (bell_high n c rc p lo hi)
    ∙ ap (bell_in a) (sym (times_at n b c lc p lo hi)) ∙ sym (times_at n a (times b c) (times_length b c ∙ lc) p lo hi))

pub rounds_times : (n : ℕ) (a : List ℕ) → RowOf n a → times (rounds n) a ≡ a
rounds_times n a r =
    let la = (member n a r).long in
    same_row n (times (rounds n) a) a (times_length (rounds n) a ∙ la) la (λ p lo hi. times_at n (rounds n) a la p lo hi ∙ rounds_at n (bell_in a p) (bell_low n a r p lo hi) (bell_high n a r p lo hi))

pub times_rounds : (n : ℕ) (a : List ℕ) → length a ≡ n → times a (rounds n) ≡ a
times_rounds n a la =
    let lr = length-range_with_len 1 n in
    same_row n (times a (rounds n)) a (times_length a (rounds n) ∙ lr) la (λ p lo hi. times_at n a (rounds n) lr p lo hi ∙ ap (bell_in a) (rounds_at n p lo hi))

pub inverse_times : (n : ℕ) (a : List ℕ) → RowOf n a → times (inverse n a) a ≡ rounds n
inverse_times n a r =
    let la = (member n a r).long in
    same_row n (times (inverse n a) a) (rounds n) (times_length (inverse n a) a ∙ la) (length-range_with_len 1 n) (λ p lo hi. times_at n (inverse n a) a la p lo hi ∙ inverse_places n a r p lo hi ∙ sym (rounds_at n p lo hi))

pub times_inverse : (n : ℕ) (a : List ℕ) → RowOf n a → times a (inverse n a) ≡ rounds n
times_inverse n a r =
    let li = inverse_length n a in
    same_row n (times a (inverse n a)) (rounds n) (times_length a (inverse n a) ∙ li) (length-range_with_len 1 n) (λ p lo hi.
    times_at n a (inverse n a) li p lo hi ∙ ap (bell_in a) (inverse_at n a r p lo hi) ∙ (bell_in_place n a r p lo hi).2 ∙ sym (rounds_at n p lo hi))

-- covers stay in their places
pub times_on : (n : ℕ) (a b : List ℕ) → length b ≡ 12 → On n a → On n b → On n (times a b)
times_on n a b lb oa ob p lo hi = times_at 12 a b lb p (omega arith) hi ∙ ap (bell_in a) (ob p lo hi) ∙ oa p lo hi

pub inverse_on : (n : ℕ) (a : List ℕ) → RowOf 12 a → On n a → On n (inverse 12 a)
inverse_on n a r o p lo hi =
    inverse_at 12 a r p (omega arith) hi ∙ ap (λ v. place_of v a) (sym (o p lo hi)) ∙ place_of_bell 12 a r p (omega arith) hi

pub rounds_on : (n : ℕ) → On n (rounds 12)
rounds_on n p lo hi = rounds_at 12 p (omega arith) hi

module _ (n : ℕ) (a : List ℕ) (r : RowOf n a) where
  -- two places hold two bells
  pub apart : (i k : ℕ) → i < n → k < n → get_or a i 0 ≡ get_or a k 0 → i ≡ k
  apart i k li lk e =
      let long = (member n a r).long in
      let once = (member n a r).once in
      let low = (member n a r).low in
      let high = (member n a r).high in
      let pi = place_of_only a i (omega arith) (once (get_or a i 0) (low i li) (high i li)) in
      let pk = place_of_only a k (omega arith) (once (get_or a k 0) (low k lk) (high k lk)) in
      let same : suc i ≡ suc k = sym pi ∙ ap (λ v. place_of v a) e ∙ pk in
      omega arith

  -- the inverse is filled bell by bell: what is written at a(p) touches no other place
  pub inverse_more : (c : List ℕ) (p : ℕ) → length c ≡ n → p < n → ((k : ℕ) → k < p → bell_in c (get_or a k 0) ≡ k + 1)
      → (k : ℕ) → k < p + 1 → bell_in (set c (get_or a p 0 - 1) (p + 1)) (get_or a k 0) ≡ k + 1
  inverse_more c p lc lp h =
      let low = (member n a r).low in
      let high = (member n a r).high in
      below_more (λ k. bell_in (set c (get_or a p 0 - 1) (p + 1)) (get_or a k 0) ≡ k + 1) p
      (λ k lk. get_or-set_other c (get_or a p 0 - 1) (get_or a k 0 - 1) (p + 1) 0 (λ e.
      let lowp = low p lp in
      let lowk = low k (omega arith) in
      let bells : get_or a k 0 ≡ get_or a p 0 = omega arith in
      let same = apart k p (omega arith) lp bells in
      omega arith) ∙ h k lk)
      (get_or-set_same c (get_or a p 0 - 1) (p + 1) 0 (let lowp = low p lp in let highp = high p lp in omega arith))

  pub inverse_from : (c : List ℕ) → length c ≡ n → ((k : ℕ) → k < n → bell_in c (get_or a k 0) ≡ k + 1) → c ≡ inverse n a
  inverse_from c lc h = same_row n c (inverse n a) lc (inverse_length n a) (λ v lo hi.
      let there = bell_in_place n a r v lo hi in
      let q : ℕ = place_of v a in
      let low = there.0 in
      let high = there.1 in
      ap (bell_in c) (sym there.2) ∙ h (q - 1) (omega arith) ∙ (let back : q - 1 + 1 ≡ q = omega arith in back) ∙ sym (inverse_at n a r v lo hi))
