-- The rules that give an answer exclude each other: leads without a repeat give one answer to a call.
use Rattle.std.proofs.Common.{◌≡◌, ℕ, ◌<◌, List, [], ◌∷◌, ◌++◌, length, get_or, take, Ok, Err, sym, refl, ap, ◌∙◌, subst, ⊎_elim, arith}
use Rattle.books.specs.Law.{Past, Turned, Reached, TrueTouch, BookAnswer, Gives}
use Rattle.books.specs.Law.Gives.{adds, turns_down, plays, stops, takes, takes_none, certifies, no_lead, not_round, other_length}
use Rattle.books.specs.Leads.{Shape, Lead, rows_of, new_rows, rung, NoRepeat, FirstAgain}
use Rattle.books.specs.Theorems.{Sound}
use Rattle.books.specs.declared.call.Call.{Call}
use Rattle.books.specs.declared.call.Call.TheVariants.{Ring, Play, Verdict}
use Rattle.books.specs.declared.call.Certificate.{Certificate}
use Rattle.books.specs.declared.call.Reply.TheVariants.{Form, True}
use Rattle.books.specs.declared.fault.BookFault.TheVariants.{Ring as NotRung, Play as NotPlayed}
use Rattle.books.specs.declared.fault.PlayFault.{PlayFault}
use Rattle.books.specs.declared.fault.RingFault.{RingFault}
use Rattle.books.specs.declared.fault.RingFault.TheVariants.{Form as NoForm, Limit, Again, Register}
use Rattle.books.proofs.Repeating.{Well, well_reached}
use Rattle.books.proofs.Testing.{not_free}
use Rattle.std.proofs.lemmas.List.{length_push, same_from_push}
use Rattle.std.proofs.lemmas.Bool.{cases_order}

-- a row that stands once stands at one place
one_place : (book : List (List ℕ)) → NoRepeat book → (i j : ℕ) → i < length book → j < length book → get_or book i [] ≡ get_or book j [] → i ≡ j
one_place book once i j li lj e =
    ⊎_elim (λ p. p) (λ d. absurd (⊎_elim (λ l. once i j l lj e) (λ l. once j i l li (sym e)) d)) (cases_order i j)

-- there is one first row, and it stands at one place
pub same_again : (book new : List (List ℕ)) (i j p q : ℕ) → NoRepeat book → FirstAgain book new i j → FirstAgain book new p q → (i ≡ p) × (j ≡ q)
same_again book new i j p q once s t =
    let same : s.k ≡ t.k = ⊎_elim (λ e. e) (λ d. absurd (⊎_elim (λ l. t.first s.k l (j, s.stands)) (λ l. s.first t.k l (q, t.stands)) d)) (cases_order s.k t.k) in
    (omega (arith, s.place, t.place), one_place book once j q s.stands.0 t.stands.0 (s.stands.1 ∙ ap (λ k. get_or new k []) same ∙ sym t.stands.1))

-- the checks come one after the other, so that one of them turns a lead down
pub same_turned : (forms : List Shape) (limit : ℕ) (leads : List Lead) (f : ℕ) → NoRepeat (rows_of forms leads) → (e d : RingFault) → Turned forms limit leads f e → Turned forms limit leads f d → e ≡ d
same_turned forms limit leads f once NoForm NoForm t s = refl
same_turned forms limit leads f once NoForm Limit t s = absurd (omega (arith, s.0))
same_turned forms limit leads f once NoForm (Again p q) t s = absurd (omega (arith, s.0.0))
same_turned forms limit leads f once NoForm (Register x) t s = absurd s
same_turned forms limit leads f once Limit NoForm t s = absurd (omega (arith, t.0))
same_turned forms limit leads f once Limit Limit t s = refl
same_turned forms limit leads f once Limit (Again p q) t s = absurd (omega (arith, t.1, s.0.1))
same_turned forms limit leads f once Limit (Register x) t s = absurd s
same_turned forms limit leads f once (Again i j) NoForm t s = absurd (omega (arith, t.0.0))
same_turned forms limit leads f once (Again i j) Limit t s = absurd (omega (arith, t.0.1, s.1))
same_turned forms limit leads f once (Again i j) (Again p q) t s =
    let e = same_again (rows_of forms leads) (new_rows forms leads f) i j p q once t.1 s.1 in
    λ d. Again (e.0 d) (e.1 d)
same_turned forms limit leads f once (Again i j) (Register x) t s = absurd s
same_turned forms limit leads f once (Register y) d t s = absurd t

module _ (forms : List Shape) (limit : ℕ) (leads : List Lead) where
  -- the lead that stops a play is not added
  stops_first : (fs : List ℕ) (m n : ℕ) (e : RingFault) → Turned forms limit (rung forms leads (take m fs)) (get_or fs m 0) e → Reached forms limit leads fs n → m < n → ⊥
  stops_first fs m n e t r l = not_free forms limit (rung forms leads (take m fs)) (get_or fs m 0) e t (r.1 m l)

  -- neither of two stops is past the other, so that they are one, with one cause
  same_stop : Sound forms → Well forms leads → (fs : List ℕ) (m n : ℕ) (e d : RingFault) → Reached forms limit leads fs m → Reached forms limit leads fs n
      → Turned forms limit (rung forms leads (take m fs)) (get_or fs m 0) e → Turned forms limit (rung forms leads (take n fs)) (get_or fs n 0) d
      → ◌≡◌ {A = BookAnswer} (Err (NotPlayed (record { lead = m; fault = e }))) (Err (NotPlayed (record { lead = n; fault = d })))
  same_stop sound w fs m n e d rm rn te td =
      let p : m ≡ n = ⊎_elim (λ e. e) (λ o. absurd (⊎_elim (λ l. stops_first fs m n e te rn l) (λ l. stops_first fs n m d td rm l) o)) (cases_order m n) in
      let moved : Turned forms limit (rung forms leads (take m fs)) (get_or fs m 0) d = subst (λ k. Turned forms limit (rung forms leads (take k fs)) (get_or fs k 0) d) (sym p) td in
      let q = same_turned forms limit (rung forms leads (take m fs)) (get_or fs m 0) (well_reached forms sound limit leads fs m rm w).no_repeat e d te moved in
      λ i. Err (NotPlayed (record { lead = p i; fault = q i }))

  -- a list with a last lead is not empty
  some_or_none : (front : List Lead) (l : Lead) → leads ≡ front ++ l ∷ [] → leads ≡ [] → ⊥
  some_or_none front l e n = let long : length (front ++ l ∷ []) ≡ 0 = ap length (sym e ∙ n) in omega (arith, length_push front l)

  -- an empty list has no length
  not_none : 0 < length leads → leads ≡ [] → ⊥
  not_none h e = let z : length leads ≡ 0 = ap length e in omega arith

  -- rule by rule: two rules for one call exclude each other, and one rule gives one answer
  pub same_given : Sound forms → Well forms leads → (c : Call (List ℕ)) (a : BookAnswer) → Gives forms limit leads c a → (b : BookAnswer) → Gives forms limit leads c b → a ≡ b
  same_given sound w c a (adds {f} h) b (adds g) = refl
  same_given sound w c a (adds {f} h) b (turns_down {e = e} t) = absurd (not_free forms limit leads f e t h)
  same_given sound w c a (turns_down {f} {e} t) b (adds h) = absurd (not_free forms limit leads f e t h)
  same_given sound w c a (turns_down {f} {e} t) b (turns_down {e = d} s) = ap (λ x. Err (NotRung x)) (same_turned forms limit leads f w.no_repeat e d t s)
  same_given sound w c a (plays {fs} r) b (plays s) = refl
  same_given sound w c a (plays {fs} r) b (stops {m = m} {e = e} l s t) = absurd (stops_first fs m (length fs) e t r l)
  same_given sound w c a (stops {fs} {m} {e} l s t) b (plays r) = absurd (stops_first fs m (length fs) e t r l)
  same_given sound w c a (stops {fs} {m} {e} l r t) b (stops {m = n} {e = d} k s u) = same_stop sound w fs m n e d r s t u
  same_given sound w c a (takes front l e) b (takes back k d) = ap (λ x. Ok (Form x.form)) (same_from_push front back l k (sym e ∙ d)).1
  same_given sound w c a (takes front l e) b (takes_none n) = absurd (some_or_none front l e n)
  same_given sound w c a (takes_none n) b (takes front l e) = absurd (some_or_none front l e n)
  same_given sound w c a (takes_none n) b (takes_none m) = refl
  same_given sound w c a (certifies t) b (certifies s) = refl
  same_given sound w c a (certifies t) b (no_lead n) = absurd (not_none t.some n)
  same_given sound w c a (certifies t) b (not_round h r) = absurd (r t.comes_round)
  same_given sound w c a (certifies t) b (other_length h r o) = absurd (o t.as_claimed)
  same_given sound w c a (no_lead n) b (certifies t) = absurd (not_none t.some n)
  same_given sound w c a (no_lead n) b (no_lead m) = refl
  same_given sound w c a (no_lead n) b (not_round h r) = absurd (not_none h n)
  same_given sound w c a (no_lead n) b (other_length h r o) = absurd (not_none h n)
  same_given sound w c a (not_round h r) b (certifies t) = absurd (r t.comes_round)
  same_given sound w c a (not_round h r) b (no_lead n) = absurd (not_none h n)
  same_given sound w c a (not_round h r) b (not_round g s) = refl
  same_given sound w c a (not_round h r) b (other_length g s o) = absurd (r s)
  same_given sound w c a (other_length h r o) b (certifies t) = absurd (o t.as_claimed)
  same_given sound w c a (other_length h r o) b (no_lead n) = absurd (not_none h n)
  same_given sound w c a (other_length h r o) b (not_round g s) = absurd (s r)
  same_given sound w c a (other_length h r o) b (other_length g s p) = refl

  -- an answer that certifies comes from a true touch
  pub certified : (n : ℕ) (c : Certificate) (a : BookAnswer) → Gives forms limit leads (Verdict n) a → a ≡ Ok (True c) → TrueTouch forms leads n
  certified n c a (certifies t) e = t
  certified n c a (no_lead z) e = absurd cc
  certified n c a (not_round h r) e = absurd cc
  certified n c a (other_length h r o) e = absurd cc

  -- a ring that is refused is turned down
  pub turned : (f : ℕ) (e : RingFault) (a : BookAnswer) → Gives forms limit leads (Ring f) a → a ≡ Err (NotRung e) → Turned forms limit leads f e
  turned f e a (adds h) p = absurd cc
  turned f e a (turns_down {e = d} t) p = let q : d ≡ e = cc in subst (Turned forms limit leads f) q t

  -- a play that is refused is turned down at the lead that is named
  pub stopped : (fs : List ℕ) (m : ℕ) (e : RingFault) (a : BookAnswer) → Gives forms limit leads (Play fs) a → a ≡ Err (NotPlayed (record { lead = m; fault = e }))
      → Turned forms limit (rung forms leads (take m fs)) (get_or fs m 0) e
  stopped fs m e a (plays r) p = absurd cc
  stopped fs m e a (stops {m = n} {e = d} l r t) p =
      let q : ◌≡◌ {A = PlayFault} (record { lead = n; fault = d }) (record { lead = m; fault = e }) = cc in
      subst (λ (x : PlayFault). Turned forms limit (rung forms leads (take x.lead fs)) (get_or fs x.lead 0) x.fault) q t

-- past the checks before, it is a row again that turns a lead down
pub past_again : (forms : List Shape) (limit : ℕ) (leads : List Lead) (f : ℕ) (e : RingFault) → Past forms limit leads f → Turned forms limit leads f e
    → (i j : ℕ) × (e ≡ Again i j) × FirstAgain (rows_of forms leads) (new_rows forms leads f) i j
past_again forms limit leads f NoForm p t = absurd (omega (arith, p.0))
past_again forms limit leads f Limit p t = absurd (omega (arith, p.1, t.1))
past_again forms limit leads f (Again i j) p t = (i, j, refl, t.1)
past_again forms limit leads f (Register x) p t = absurd t
