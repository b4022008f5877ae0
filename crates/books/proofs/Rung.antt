-- The leads while a play rings its numbers, and while leads are taken back.
use Rattle.std.proofs.Common.{◌≡◌, ℕ, ◌+◌, ◌-◌, ◌<◌, ◌≤◌, List, [], ◌∷◌, ◌++◌, length, get_or, take, Some, None, Err, sym, refl, ap, ◌∙◌, arith, below_more}
use Rattle.books.specs.Law.{Free, Reached}
use Rattle.books.specs.Leads.{Shape, Lead, new_lead, added, rung}
use Rattle.books.specs.Ringing.{Moves}
use Rattle.books.specs.declared.fault.RingFault.{RingFault}
use Rattle.books.specs.declared.fault.RingFault.TheVariants.{Form as NoForm, Limit, Again, Register}
use Rattle.std.proofs.lemmas.List.{take_more, take-append-le, take_all, length_push, length-take-le}
use Rattle.std.proofs.lemmas.Option.{gets, slice_get_within, get_or_from_slice_get}
use Rattle.std.specs.List.{slice_get}

-- the numbers before are rung first
pub rung_push : (forms : List Shape) (leads : List Lead) (fs : List ℕ) (f : ℕ) → rung forms leads (fs ++ f ∷ []) ≡ added forms (rung forms leads fs) f
unfolding rung
rung_push forms leads [] f = refl
rung_push forms leads (e ∷ fs) f = rung_push forms (added forms leads e) fs f

-- one number more is rung after the first i of them
pub rung_more : (forms : List Shape) (leads : List Lead) (fs : List ℕ) (i : ℕ) → i < length fs → rung forms leads (take (i + 1) fs) ≡ added forms (rung forms leads (take i fs)) (get_or fs i 0)
rung_more forms leads fs i l = ap (rung forms leads) (take_more fs i 0 l) ∙ rung_push forms leads (take i fs) (get_or fs i 0)

-- each number adds one lead
pub length_rung : (forms : List Shape) (leads : List Lead) (fs : List ℕ) → length (rung forms leads fs) ≡ length leads + length fs
unfolding rung
length_rung forms leads [] = omega arith
length_rung forms leads (f ∷ fs) = omega (arith, length_rung forms (added forms leads f) fs, length_push leads (new_lead forms leads f))

-- leads are added at the end, so that those before stay
pub front_rung : (forms : List Shape) (leads : List Lead) (fs : List ℕ) (n : ℕ) → n ≤ length leads → take n (rung forms leads fs) ≡ take n leads
unfolding rung
front_rung forms leads [] n l = refl
front_rung forms leads (f ∷ fs) n l =
    let new : List Lead = new_lead forms leads f ∷ [] in
    front_rung forms (added forms leads f) fs n (omega (arith, length_push leads (new_lead forms leads f))) ∙ take-append-le n leads new l

-- all leads of before are the first of those that stand
pub back_rung : (forms : List Shape) (leads : List Lead) (fs : List ℕ) → take (length leads) (rung forms leads fs) ≡ leads
back_rung forms leads fs = front_rung forms leads fs (length leads) (omega arith) ∙ take_all (length leads) leads (omega arith)

-- a lead that is turned down leaves the leads what they were
pub not_moved : (forms : List Shape) (limit : ℕ) (leads : List Lead) (f : ℕ) (e : RingFault) (after were : List Lead) → Moves forms limit leads f (Err e) after → leads ≡ were → after ≡ were
not_moved forms limit leads f NoForm after were m is = m.1 ∙ is
not_moved forms limit leads f Limit after were m is = m.2 ∙ is
not_moved forms limit leads f (Again i j) after were m is = m.1 ∙ is
not_moved forms limit leads f (Register e) after were m is = m.1 ∙ is

-- where the leads rung so far were free and the next one is, one more is reached
pub reached_more : (forms : List Shape) (limit : ℕ) (leads : List Lead) (fs : List ℕ) (i : ℕ) → i < length fs → Reached forms limit leads fs i → Free forms limit (rung forms leads (take i fs)) (get_or fs i 0) → Reached forms limit leads fs (i + 1)
reached_more forms limit leads fs i l r f = (omega arith, below_more (λ k. Free forms limit (rung forms leads (take k fs)) (get_or fs k 0)) i r.1 f)

-- one lead for each of the first i numbers
pub length_so_far : (forms : List Shape) (leads : List Lead) (fs : List ℕ) (i : ℕ) → i ≤ length fs → length (rung forms leads (take i fs)) ≡ length leads + i
length_so_far forms leads fs i l = omega (arith, length_rung forms leads (take i fs), length-take-le i fs l)

-- a number that is given stands in the list at the place reached
pub given_at : (fs : List ℕ) (i f : ℕ) → Some f ≡ slice_get fs i → (i < length fs) × (f ≡ get_or fs i 0)
given_at fs i f e = (slice_get_within fs i f (sym e), sym (get_or_from_slice_get fs i f 0 (sym e)))

-- where nothing is given the list is at its end
pub given_all : (fs : List ℕ) (i : ℕ) → None ≡ slice_get fs i → length fs ≤ i
given_all fs i e = grind (arith, gets)

module _ (forms : List Shape) (start : List Lead) (fs : List ℕ) (i : ℕ) (l : i ≤ length fs) (leads : List Lead) (are : leads ≡ rung forms start (take i fs)) where
  -- the leads that stand beyond those of before are as many as the numbers rung
  pub which_lead : (count stand : ℕ) → count ≡ length leads → stand ≡ length start → (stand ≤ count) × (count - stand ≡ i)
  which_lead count stand c d =
      let long : count ≡ stand + i = omega (arith, c, d, ap length are, length_so_far forms start fs i l) in
      (omega (arith, long), omega (arith, long))

  -- and taking those back leaves the leads of before
  pub back_to : (stand : ℕ) → stand ≡ length start → take stand leads ≡ start
  back_to stand d = rw (are, d) (back_rung forms start (take i fs))
