-- What follows from a lawful list of answers.
use Rattle.std.proofs.Common.{◌≡◌, ℕ, suc, ◌<◌, ◌↔◌, List, [], ◌∷◌, ◌++◌, length, get_or, take, Some, Ok, Err, sym, refl, ◌∙◌, subst, ⊎_elim, arith}
use Rattle.books.specs.Law.{standing, Past, Turned, Reached, BookAnswer, Gives, At, before, Lawful}
use Rattle.books.specs.Law.Gives.{turns_down, stops, certifies}
use Rattle.books.specs.Leads.{Shape, Lead, rows_of, new_rows, rung, FirstAgain}
use Rattle.books.specs.Theorems.{Sound, VerdictsTrue, RingsTurned, PlaysTurned, LawOfBooks}
use Rattle.books.specs.declared.call.Call.{Call}
use Rattle.books.specs.declared.call.Call.TheVariants.{Ring, Play, Verdict}
use Rattle.books.specs.declared.call.Certificate.{Certificate}
use Rattle.books.specs.declared.call.Reply.TheVariants.{True}
use Rattle.books.specs.declared.fault.BookFault.TheVariants.{Ring as NotRung, Play as NotPlayed}
use Rattle.books.specs.declared.fault.RingFault.{RingFault}
use Rattle.books.specs.declared.fault.RingFault.TheVariants.{Again}
use Rattle.books.proofs.Giving.{same_given, certified, turned, stopped, past_again}
use Rattle.books.proofs.Repeating.{Well, well_standing, true_so_far}
use Rattle.books.proofs.Standing.{goes_on}
use Rattle.books.proofs.Testing.{first_again, shares}
use Rattle.std.proofs.lemmas.List.{length_push, take-append-le, take_at}
use Rattle.std.proofs.lemmas.Option.{gets, slice_get-get_or, slice_get_within}
use Rattle.std.proofs.lemmas.Grind.{common_steps}
use Rattle.std.proofs.lemmas.Bool.{cases_order}
use Rattle.std.specs.List.{slice_get}

-- one more at the end changes nothing before it
at_left : {X : Type 0} (xs : List X) (y : X) (k : ℕ) → k < length xs → slice_get (xs ++ y ∷ []) k ≡ slice_get xs k
at_left xs y k l = grind (arith, common_steps, gets)

-- and stands at the old length
at_end : {X : Type 0} (xs : List X) (y : X) (k : ℕ) → k ≡ length xs → slice_get (xs ++ y ∷ []) k ≡ Some y
at_end xs y k e = grind (arith, common_steps, gets)

-- within, something stands
at_some : {X : Type 0} (xs : List X) (k : ℕ) → k < length xs → (x : X) × At xs k x
at_some [] k l = absurd (omega arith)
at_some (y ∷ xs) k l = (get_or (y ∷ xs) k y, slice_get-get_or (y ∷ xs) k y l)

-- two lists with the same at each index are equal
same_at : {X : Type 0} (xs ys : List X) → length xs ≡ length ys → ((k : ℕ) (x y : X) → At xs k x → At ys k y → x ≡ y) → xs ≡ ys
same_at [] [] l h = refl
same_at [] (y ∷ ys) l h = absurd (omega arith)
same_at (x ∷ xs) [] l h = absurd (omega arith)
same_at (x ∷ xs) (y ∷ ys) l h =
    let front : x ≡ y = h 0 x y refl refl in
    let back : xs ≡ ys = same_at xs ys (omega arith) (λ k v w p q. h (suc k) v w p q) in
    cc

module _ (forms : List Shape) (limit : ℕ) where
  -- the answer is b exactly when the leads give b
  abbrev Exactly : List Lead → Call (List ℕ) → BookAnswer → Type 0
  Exactly leads c a = (b : BookAnswer) → (a ≡ b) ↔ Gives forms limit leads c b

  -- where one answer at most is given, one that is given is exactly it
  exactly_given : Sound forms → (leads : List Lead) → Well forms leads → (c : Call (List ℕ)) (a : BookAnswer) → Gives forms limit leads c a → Exactly leads c a
  exactly_given sound leads w c a g b = (λ e. subst (Gives forms limit leads c) e g, λ h. same_given forms limit leads sound w c a g b h)

  module _ (calls : List (Call (List ℕ))) (answers : List BookAnswer) where
    -- the calls before are answered as they were, and the new one by what the leads give
    pub extends : (c : Call (List ℕ)) (a : BookAnswer) → Sound forms → Lawful forms limit calls answers → Gives forms limit (standing forms limit calls) c a → Lawful forms limit (calls ++ c ∷ []) (answers ++ a ∷ [])
    extends c a sound law g = record {
      each = omega (arith, length_push calls c, length_push answers a, law.each);
      exactly = λ k d b at_d at_b.
          ⊎_elim
          (λ here.
          let end : (take k (calls ++ c ∷ []) ≡ calls) = take_at calls (c ∷ []) k (sym here) in
          let same_call : Some c ≡ Some d = sym (at_end calls c k here) ∙ at_d in
          let same_answer : Some a ≡ Some b = sym (at_end answers a k (here ∙ sym law.each)) ∙ at_b in
          let p : c ≡ d = cc in
          let q : a ≡ b = cc in
          subst (λ cs. Exactly (standing forms limit cs) d b) (sym end)
          (subst (λ x. Exactly (standing forms limit calls) x b) p (subst (Exactly (standing forms limit calls) c) q (exactly_given sound (standing forms limit calls) (well_standing forms sound limit calls) c a g))))
          (λ other. ⊎_elim
          (λ l.
          let each = law.each in
          subst (λ cs. Exactly (standing forms limit cs) d b) (sym (take-append-le k calls (c ∷ []) (omega arith)))
          (law.exactly k d b (sym (at_left calls c k l) ∙ at_d) (sym (at_left answers a k (omega arith)) ∙ at_b)))
          (λ l. absurd (omega (arith, length_push calls c, slice_get_within (calls ++ c ∷ []) k d at_d))) other)
          (cases_order k (length calls));
    }

    module _ (law : Lawful forms limit calls answers) where
      -- each answer is given, since it equals itself
      given : (k : ℕ) (c : Call (List ℕ)) (a : BookAnswer) → At calls k c → At answers k a → Gives forms limit (before forms limit calls k) c a
      given k c a at_c at_a = (law.exactly k c a at_c at_a a).0 refl

      -- only a true touch gives an answer that certifies, and it gives that answer
      pub verdicts : VerdictsTrue forms limit calls answers
      verdicts k n a at_c at_a =
          let leads : List Lead = before forms limit calls k in
          let c : Certificate = record { rows = length (rows_of forms leads); leads = length leads } in (
            λ s. certified forms limit leads n s.0 a (given k (Verdict n) a at_c at_a) s.1,
            λ t. (c, (law.exactly k (Verdict n) a at_c at_a (Ok (True c))).1 (certifies t)),
          )

      -- past the other checks only a row again turns a lead down, and a shared row has a first
      pub rings : RingsTurned forms limit calls answers
      rings k f a at_c at_a past =
          let leads : List Lead = before forms limit calls k in
          let book : List (List ℕ) = rows_of forms leads in
          let new : List (List ℕ) = new_rows forms leads f in
          let named : (e : RingFault) → a ≡ Err (NotRung e) → (i j : ℕ) × (e ≡ Again i j) × FirstAgain book new i j
          = λ e p. past_again forms limit leads f e past (turned forms limit leads f e a (given k (Ring f) a at_c at_a) p) in (
            (
              λ s. let t = named s.0 s.1 in shares book new t.0 t.1 t.3,
              λ s. let t = first_again book new s in (Again t.0 t.1, (law.exactly k (Ring f) a at_c at_a (Err (NotRung (Again t.0 t.1)))).1 (turns_down (past, t.2))),
            ),
            named,
          )

      -- a play that is turned down at m has met a row again there
      plays_at : (k m : ℕ) (fs : List ℕ) (a : BookAnswer) → At calls k (Play fs) → At answers k a → m < length fs → Reached forms limit (before forms limit calls k) fs m
          → (leads : List Lead) → leads ≡ rung forms (before forms limit calls k) (take m fs) → Past forms limit leads (get_or fs m 0)
          → (e : RingFault) → a ≡ Err (NotPlayed (record { lead = m; fault = e })) → (i j : ℕ) × (e ≡ Again i j) × FirstAgain (rows_of forms leads) (new_rows forms leads (get_or fs m 0)) i j
      plays_at k m fs a at_c at_a l r leads is past e p =
          past_again forms limit leads (get_or fs m 0) e past
          (subst (λ ls. Turned forms limit ls (get_or fs m 0) e) (sym is) (stopped forms limit (before forms limit calls k) fs m e a (given k (Play fs) a at_c at_a) p))

      -- as for a ring, with the leads of the play before m
      pub plays : PlaysTurned forms limit calls answers
      plays k m fs a at_c at_a l r leads is past =
          let f : ℕ = get_or fs m 0 in
          let book : List (List ℕ) = rows_of forms leads in
          let new : List (List ℕ) = new_rows forms leads f in
          let named = plays_at k m fs a at_c at_a l r leads is past in (
            (
              λ s. let t = named s.0 s.1 in shares book new t.0 t.1 t.3,
              λ s.
                  let t = first_again book new s in
                  let e : RingFault = Again t.0 t.1 in
                  let down : Turned forms limit leads f e = (past, t.2) in
                  (e, (law.exactly k (Play fs) a at_c at_a (Err (NotPlayed (record { lead = m; fault = e })))).1 (stops l r (subst (λ ls. Turned forms limit ls f e) is down))),
            ),
            named,
          )

  -- each answer of the second list is given, and so it is that of the first
  pub one : (calls : List (Call (List ℕ))) (a b : List BookAnswer) → Lawful forms limit calls a → Lawful forms limit calls b → a ≡ b
  one calls a b la lb = same_at a b (la.each ∙ sym lb.each) (λ k x y at_x at_y.
      let inside = slice_get_within a k x at_x in
      let each = la.each in
      let c = at_some calls k (omega arith) in
      (la.exactly k c.0 x c.1 at_x y).1 (given calls b lb k c.0 y c.1 at_y))

-- all of it together
pub law_of_books : LawOfBooks
law_of_books = record {
  verdicts = λ forms limit calls answers law. verdicts forms limit calls answers law;
  rings = λ forms limit calls answers law. rings forms limit calls answers law;
  plays = λ forms limit calls answers law. plays forms limit calls answers law;
  one = λ forms limit calls a b la lb. one forms limit calls a b la lb;
  extends = λ forms limit calls answers c a sound law g. extends forms limit calls answers c a sound law g;
  goes_on = λ forms limit calls c. goes_on forms limit calls c;
  true_so_far = λ forms limit calls sound. true_so_far forms limit calls sound;
}
