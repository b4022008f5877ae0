-- Reading token by token comes to the same as reading byte by byte.
use Rattle.std.proofs.Common.{◌≡◌, ℕ, suc, ◌+◌, ◌-◌, ◌<◌, ◌≤◌, Bool, true, false, cond, eqb, ltb, ◌⊎◌, List, [], ◌∷◌, ◌++◌, map, length, get_or, take, drop, All, sym, refl, ap, ◌∙◌, subst, inl, inr, ⊎_elim, arith, take-append-drop}
use Rattle.notation.specs.Changes.{ascending, can_ring, made}
use Rattle.notation.specs.Drafts.{turn, runs, stepped, seen_behind, finished}
use Rattle.notation.specs.Grammar.{Sign}
use Rattle.notation.specs.Reading.{Kind, bell, cross, point, comma, sign, other, mark, kind, fresh, signed, crossed, running, pointed, State, Step, goes, halts, Outcome, stopped, seeing, add, all_changes, close, behind_run, then, in_run, step, done, reading}
use Rattle.notation.specs.Tokens.{TokenAt, Single}
use Rattle.notation.specs.declared.draft.Seen.{Seen}
use Rattle.notation.specs.declared.draft.Seen.TheVariants.{Fresh, Signed, Crossed, Ran, Pointed}
use Rattle.notation.specs.declared.fault.Fault.TheVariants.{Places, Unrung, Many}
use Rattle.notation.specs.declared.token.Token.{Token}
use Rattle.notation.specs.declared.token.Token.TheVariants.{Run, Cross, Point, Comma, And, Plus, Other}
use Rattle.rows.specs.Text.{named}
use Rattle.std.proofs.lemmas.List.{append_assoc, append-nil, drop_all, drop-drop, drop_more, get_or-drop, length-drop, length-take-le}
use Rattle.std.proofs.lemmas.Bool.{cond-false, cond-true, le-ltb, lt-ltb}

-- behind a whole run its change is in the block already
unfoldable pub behind : ℕ → ℕ → State → List ℕ → Outcome
unfolding reading
behind n j st [] = done (close j st)
behind n j st (b ∷ bs) = reading n (suc j) (behind_run n j (kind b) st) bs

-- the bytes from j on, where this was seen last; or a stop
unfoldable pub resume : ℕ → ℕ → Seen → Step → List ℕ → Outcome
unfolding reading behind
resume n j s (halts f) bs = stopped f
resume n j Fresh (goes st) bs = reading n j (goes (seeing st fresh)) bs
resume n j Signed (goes st) bs = reading n j (goes (seeing st signed)) bs
resume n j Crossed (goes st) bs = reading n j (goes (seeing st crossed)) bs
resume n j Ran (goes st) bs = behind n j st bs
resume n j Pointed (goes st) bs = reading n j (goes (seeing st pointed)) bs

pub resume_end : (n j : ℕ) (s : Seen) (st : State) → resume n j s (goes st) [] ≡ finished j s st
unfolding resume reading behind
resume_end n j Fresh st = refl
resume_end n j Signed st = refl
resume_end n j Crossed st = refl
resume_end n j Ran st = refl
resume_end n j Pointed st = refl

-- a change that was added leaves the reading behind a cross
after_add : (n j p : ℕ) (ws : List ℕ) (st : State) (bs : List ℕ) (a r : Bool) (x : State) → x.seen ≡ crossed
    → reading n j (cond a (cond r (goes x) (halts (Unrung p))) (halts (Places p))) bs ≡ resume n j Crossed (cond a (cond r (goes x) (halts (Unrung p))) (halts (Places p))) bs
unfolding resume reading
after_add n j p ws st bs true true x e = ap (λ s. reading n j (goes (seeing x s)) bs) e
after_add n j p ws st bs true false x e = refl
after_add n j p ws st bs false r x e = refl

added : (n j p : ℕ) (ws : List ℕ) (st : State) (bs : List ℕ) → reading n j (add n p ws st) bs ≡ resume n j Crossed (add n p ws st) bs
added n j p ws st bs = after_add n j p ws st bs (ascending n ws) (can_ring (made n ws)) _ refl

after_close : (n j k : ℕ) (bs : List ℕ) (b : Bool) (x : State) → x.seen ≡ fresh → reading n j (cond b (halts (Many k)) (goes x)) bs ≡ resume n j Fresh (cond b (halts (Many k)) (goes x)) bs
unfolding resume reading
after_close n j k bs true x e = refl
after_close n j k bs false x e = ap (λ s. reading n j (goes (seeing x s)) bs) e

closes : (n j k : ℕ) (st : State) (bs : List ℕ) → reading n j (close k st) bs ≡ resume n j Fresh (close k st) bs
closes n j k st bs = after_close n j st.from bs (ltb 64 (length (all_changes st))) _ refl

-- a byte of a kind does what its token does
turns : (n j : ℕ) (s : Seen) (k : Kind) (st : State) (b : ℕ) (bs : List ℕ) → kind b ≡ k → resume n j s (goes st) (b ∷ bs) ≡ reading n (suc j) (turn n j k s st) bs
unfolding resume reading behind
turns n j Fresh k st b bs e = ap (λ x. reading n (suc j) (step n j x fresh (seeing st fresh)) bs) e ∙ same k
  where
    same : (x : Kind) → reading n (suc j) (step n j x fresh (seeing st fresh)) bs ≡ reading n (suc j) (turn n j x Fresh st) bs
    same (bell v) = refl
    same cross = refl
    same point = refl
    same comma = refl
    same (sign x) = refl
    same other = refl
turns n j Signed k st b bs e = ap (λ x. reading n (suc j) (step n j x signed (seeing st signed)) bs) e ∙ same k
  where
    same : (x : Kind) → reading n (suc j) (step n j x signed (seeing st signed)) bs ≡ reading n (suc j) (turn n j x Signed st) bs
    same (bell v) = refl
    same cross = refl
    same point = refl
    same comma = refl
    same (sign x) = refl
    same other = refl
turns n j Crossed k st b bs e = ap (λ x. reading n (suc j) (step n j x crossed (seeing st crossed)) bs) e ∙ same k
  where
    same : (x : Kind) → reading n (suc j) (step n j x crossed (seeing st crossed)) bs ≡ reading n (suc j) (turn n j x Crossed st) bs
    same (bell v) = refl
    same cross = refl
    same point = refl
    same comma = refl
    same (sign x) = refl
    same other = refl
turns n j Ran k st b bs e = ap (λ x. reading n (suc j) (behind_run n j x st) bs) e
turns n j Pointed k st b bs e = ap (λ x. reading n (suc j) (step n j x pointed (seeing st pointed)) bs) e ∙ same k
  where
    same : (x : Kind) → reading n (suc j) (step n j x pointed (seeing st pointed)) bs ≡ reading n (suc j) (turn n j x Pointed st) bs
    same (bell v) = refl
    same cross = refl
    same point = refl
    same comma = refl
    same (sign x) = refl
    same other = refl

module _ (n j : ℕ) (st : State) (bs : List ℕ) where
  cross_on : (s : Seen) → reading n (suc j) (turn n j cross s st) bs ≡ resume n (suc j) Crossed (turn n j cross s st) bs
  unfolding resume reading
  cross_on Fresh = added n (suc j) j [] st bs
  cross_on Signed = added n (suc j) j [] st bs
  cross_on Crossed = added n (suc j) j [] st bs
  cross_on Ran = added n (suc j) j [] st bs
  cross_on Pointed = refl

  point_on : (s : Seen) → reading n (suc j) (turn n j point s st) bs ≡ resume n (suc j) Pointed (turn n j point s st) bs
  unfolding resume reading
  point_on Fresh = refl
  point_on Signed = refl
  point_on Crossed = refl
  point_on Ran = refl
  point_on Pointed = refl

  comma_on : (s : Seen) → reading n (suc j) (turn n j comma s st) bs ≡ resume n (suc j) Fresh (turn n j comma s st) bs
  unfolding resume reading
  comma_on Fresh = refl
  comma_on Signed = refl
  comma_on Crossed = closes n (suc j) (suc j) st bs
  comma_on Ran = closes n (suc j) (suc j) st bs
  comma_on Pointed = refl

  sign_on : (x : Sign) (s : Seen) → reading n (suc j) (turn n j (sign x) s st) bs ≡ resume n (suc j) Signed (turn n j (sign x) s st) bs
  unfolding resume reading
  sign_on x Fresh = refl
  sign_on x Signed = refl
  sign_on x Crossed = refl
  sign_on x Ran = refl
  sign_on x Pointed = refl

  other_on : (s r : Seen) → reading n (suc j) (turn n j other s st) bs ≡ resume n (suc j) r (turn n j other s st) bs
  unfolding resume reading
  other_on Fresh r = refl
  other_on Signed r = refl
  other_on Crossed r = refl
  other_on Ran r = refl
  other_on Pointed r = refl

cond_any : {X : Type 0} (P : X → Type 0) (b : Bool) (x y : X) → P x → P y → P (cond b x y)
cond_any P true x y p q = p
cond_any P false x y p q = q

-- a byte that names no place ends the run before it
abbrev EndsRun : ℕ → ℕ → ℕ → List ℕ → State → Kind → Type 0
EndsRun n j p ws st k = in_run n j p ws k st ≡ then (add n p ws st) (behind_run n j k)

ends_run : (n j p : ℕ) (ws : List ℕ) (st : State) (b : ℕ) → named b ≡ 0 → EndsRun n j p ws st (kind b)
ends_run n j p ws st b e =
    let P : Kind → Type 0 = EndsRun n j p ws st in
    let none : kind b ≡ mark b = cond-false (ltb 0 (named b)) (bell (named b)) (mark b) (le-ltb 0 (named b) (omega arith)) in
    subst P (sym none)
    (cond_any P (eqb b 45) _ _ refl (cond_any P (eqb b 120) _ _ refl (cond_any P (eqb b 46) _ _ refl (cond_any P (eqb b 44) _ _ refl (cond_any P (eqb b 38) _ _ refl (cond_any P (eqb b 43) _ _ refl refl))))))

then_done : (n j p : ℕ) (ws : List ℕ) (x : Step) → done (then x (close j)) ≡ resume n j Ran x []
unfolding resume behind
then_done n j p ws (goes st) = refl
then_done n j p ws (halts f) = refl

then_on : (n j b : ℕ) (bs : List ℕ) (x : Step) → reading n (suc j) (then x (behind_run n j (kind b))) bs ≡ resume n j Ran x (b ∷ bs)
unfolding resume reading behind
then_on n j b bs (goes st) = refl
then_on n j b bs (halts f) = refl

-- a run that is complete is added
run_ends : (n j p : ℕ) (ws : List ℕ) (st : State) (bs : List ℕ) → (bs ≡ []) ⊎ (named (get_or bs 0 0) ≡ 0) → reading n j (goes (seeing st (running p ws))) bs ≡ resume n j Ran (add n p ws st) bs
unfolding reading
run_ends n j p ws st [] h = then_done n j p ws (add n p ws st)
run_ends n j p ws st (b ∷ bs) h =
    let none : named b ≡ 0 = ⊎_elim (λ e. absurd (let z : ◌≡◌ {A = ℕ} 0 1 = cc in omega arith)) (λ e. e) h in
    ap (λ x. reading n (suc j) x bs) (ends_run n j p ws (seeing st (running p ws)) b none) ∙ then_on n j b bs (add n p ws st)

bell_kind : (b : ℕ) → 0 < named b → kind b ≡ bell (named b)
bell_kind b h = cond-true (ltb 0 (named b)) (bell (named b)) (mark b) (lt-ltb 0 (named b) h)

-- bell characters go on with the run
run_on : (n j p : ℕ) (ws ds : List ℕ) (st : State) (rest : List ℕ) → ((i : ℕ) → i < length ds → 0 < named (get_or ds i 0))
    → reading n j (goes (seeing st (running p ws))) (ds ++ rest) ≡ reading n (j + length ds) (goes (seeing st (running p (ws ++ map named ds)))) rest
unfolding reading
run_on n j p ws [] st rest h =
    let here : j ≡ j + 0 = omega arith in
    ap (λ i. reading n i (goes (seeing st (running p ws))) rest) here ∙ ap (λ l. reading n (j + 0) (goes (seeing st (running p l))) rest) (sym (append-nil ws))
run_on n j p ws (d ∷ ds) st rest h =
    let next : suc j + length ds ≡ j + length (d ∷ ds) = omega arith in
    ap (λ k. reading n (suc j) (in_run n j p ws k (seeing st (running p ws))) (ds ++ rest)) (bell_kind d (h 0 (omega arith)))
    ∙ run_on n (suc j) p (ws ++ named d ∷ []) ds st rest (λ i l. h (suc i) (omega arith))
    ∙ ap (λ l. reading n (suc j + length ds) (goes (seeing st (running p l))) rest) (append_assoc ws (named d ∷ []) (map named ds))
    ∙ ap (λ i. reading n i (goes (seeing st (running p (ws ++ map named (d ∷ ds))))) rest) next

-- a whole run does what its token does
run_whole : (n j d : ℕ) (ds : List ℕ) (st : State) (rest : List ℕ) → ((i : ℕ) → i < length ds → 0 < named (get_or ds i 0)) → (rest ≡ []) ⊎ (named (get_or rest 0 0) ≡ 0)
    → reading n (suc j) (goes (seeing st (running j (named d ∷ [])))) (ds ++ rest) ≡ resume n (j + length (d ∷ ds)) Ran (add n j (map named (d ∷ ds)) st) rest
run_whole n j d ds st rest h e =
    let next : suc j + length ds ≡ j + length (d ∷ ds) = omega arith in
    run_on n (suc j) j (named d ∷ []) ds st rest h ∙ ap (λ i. reading n i (goes (seeing st (running j (map named (d ∷ ds))))) rest) next ∙ run_ends n (j + length (d ∷ ds)) j (map named (d ∷ ds)) st rest e

pub resume_run : (n j : ℕ) (s : Seen) (d : ℕ) (ds : List ℕ) (st : State) (rest : List ℕ) → ((i : ℕ) → i < length (d ∷ ds) → 0 < named (get_or (d ∷ ds) i 0)) → (rest ≡ []) ⊎ (named (get_or rest 0 0) ≡ 0)
    → resume n j s (goes st) (d ∷ (ds ++ rest)) ≡ resume n (j + length (d ∷ ds)) Ran (runs n j (map named (d ∷ ds)) s st) rest
unfolding resume reading behind
resume_run n j s d ds st rest h e = turns n j s (bell (named d)) st d (ds ++ rest) (bell_kind d (h 0 (omega arith))) ∙ go s
  where
    more : (i : ℕ) → i < length ds → 0 < named (get_or ds i 0)
    more i l = h (suc i) (omega arith)

    go : (s : Seen) → reading n (suc j) (turn n j (bell (named d)) s st) (ds ++ rest) ≡ resume n (j + length (d ∷ ds)) Ran (runs n j (map named (d ∷ ds)) s st) rest
    go Fresh = run_whole n j d ds st rest more e
    go Signed = run_whole n j d ds st rest more e
    go Crossed = run_whole n j d ds st rest more e
    go Ran = refl
    go Pointed = run_whole n j d ds st rest more e

-- what stands from j on, where a token reaches to end
module _ (n : ℕ) (t : List ℕ) (j end : ℕ) (s : Seen) (st : State) where
  one_byte : (k : Kind) → (at : ℕ) → Single t j at end k → (r : Seen) → ((b : ℕ) (bs : List ℕ) → kind b ≡ k → resume n j s (goes st) (b ∷ bs) ≡ resume n (suc j) r (turn n at k s st) bs)
      → resume n j s (goes st) (drop j t) ≡ resume n end r (turn n at k s st) (drop end t)
  one_byte k at x r h =
      let next : j + 1 ≡ end = sym x.3 in
      let here : suc j ≡ end = omega arith in
      ap (resume n j s (goes st)) (drop_more t j 0 x.1) ∙ h (get_or t j 0) (drop (j + 1) t) x.2
      ∙ (λ i. resume n (here i) r (turn n at k s st) (drop (next i) t))

  abbrev Turned : ℕ → Kind → Seen → Type 0
  Turned at k r = (b : ℕ) (bs : List ℕ) → kind b ≡ k → resume n j s (goes st) (b ∷ bs) ≡ resume n (suc j) r (turn n at k s st) bs

  -- the position of a token is where it stands
  moved : (k : Kind) (r : Seen) (at : ℕ) → at ≡ j → Turned j k r → Turned at k r
  moved k r at e h = subst (λ i. Turned i k r) (sym e) h

  digits_cut : (ds : List ℕ) → j < end → end ≤ length t → ds ≡ take (end - j) (drop j t) → drop j t ≡ ds ++ drop end t
  digits_cut ds lo hi e =
      let whole : j + (end - j) ≡ end = omega arith in
      sym (take-append-drop (end - j) (drop j t)) ∙ ((λ i. sym e i ++ drop-drop (end - j) j t i) ∙ ap (λ k. ds ++ drop k t) whole)

  run_token : (ds : List ℕ) (at : ℕ) → at ≡ j → j < end → end ≤ length t → ds ≡ take (end - j) (drop j t) → All (λ b. 0 < named b) ds → (end ≡ length t) ⊎ (named (get_or t end 0) ≡ 0)
      → resume n j s (goes st) (drop j t) ≡ resume n end Ran (runs n at (map named ds) s st) (drop end t)
  run_token [] at e lo hi is bells stops = absurd (let z : 0 ≡ length (take (end - j) (drop j t)) = ap length is in omega (arith, length-take-le (end - j) (drop j t) (omega (arith, length-drop j t)), length-drop j t))
  run_token (d ∷ ds) at e lo hi is bells stops =
      let long : length (d ∷ ds) ≡ end - j = ap length is ∙ length-take-le (end - j) (drop j t) (omega (arith, length-drop j t)) in
      let upto : j + length (d ∷ ds) ≡ end = omega arith in
      let rest : (drop end t ≡ []) ⊎ (named (get_or (drop end t) 0 0) ≡ 0) =
      ⊎_elim (λ x. inl (drop_all end t (omega arith))) (λ x. inr (ap named (get_or-drop end t 0 0 ∙ ap (λ k. get_or t k 0) (let z : end + 0 ≡ end = omega arith in z)) ∙ x)) stops in
      ap (resume n j s (goes st)) (digits_cut (d ∷ ds) lo hi is) ∙ resume_run n j s d ds st (drop end t) (λ i l. bells i 0 l) rest
      ∙ (λ i. resume n (upto i) Ran (runs n (sym e i) (map named (d ∷ ds)) s st) (drop end t))

  -- a token does to the reading what it does to the draft
  pub token_more : (token : Token) → TokenAt t j end token → resume n j s (goes st) (drop j t) ≡ resume n end (seen_behind token s) (stepped n token s st) (drop end t)
  token_more (Run digits at) x = run_token digits.now at x.0 x.1 x.2 x.3 x.4 x.5
  token_more (Cross at) x = one_byte cross at x Crossed (moved cross Crossed at x.0 (λ b bs e. turns n j s cross st b bs e ∙ cross_on n j st bs s))
  token_more (Point at) x = one_byte point at x Pointed (moved point Pointed at x.0 (λ b bs e. turns n j s point st b bs e ∙ point_on n j st bs s))
  token_more (Comma at) x = one_byte comma at x Fresh (moved comma Fresh at x.0 (λ b bs e. turns n j s comma st b bs e ∙ comma_on n j st bs s))
  token_more (And at) x = one_byte (sign Sign.amp) at x Signed (moved (sign Sign.amp) Signed at x.0 (λ b bs e. turns n j s (sign Sign.amp) st b bs e ∙ sign_on n j st bs Sign.amp s))
  token_more (Plus at) x = one_byte (sign Sign.plus) at x Signed (moved (sign Sign.plus) Signed at x.0 (λ b bs e. turns n j s (sign Sign.plus) st b bs e ∙ sign_on n j st bs Sign.plus s))
  token_more (Other at) x = one_byte other at x s (moved other s at x.0 (λ b bs e. turns n j s other st b bs e ∙ other_on n j st bs s s))
