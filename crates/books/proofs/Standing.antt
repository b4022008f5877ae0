-- What a call does to the leads that stand.
use Rattle.std.proofs.Common.{◌≡◌, ℕ, zero, suc, ◌-◌, ◌<◌, true, false, List, [], ◌∷◌, ◌++◌, length, get_or, take, refl, ◌∙◌, arith}
use Rattle.books.specs.Law.{free, playing, after, standing_from, standing, Free, Turned, Reached}
use Rattle.books.specs.Leads.{Shape, Lead, added, rung}
use Rattle.books.specs.Theorems.{WhichStand}
use Rattle.books.specs.declared.call.Call.{Call}
use Rattle.books.specs.declared.fault.RingFault.{RingFault}
use Rattle.books.proofs.Testing.{free_true, free_false}
use Rattle.std.proofs.lemmas.List.{take_at, length_push}

-- a play goes on past a lead that is free
pub playing_adds : (forms : List Shape) (limit : ℕ) (start leads : List Lead) (f : ℕ) (fs : List ℕ) → free forms limit leads f ≡ true
    → playing forms limit start leads (f ∷ fs) ≡ playing forms limit start (added forms leads f) fs
unfolding playing
playing_adds forms limit start leads f fs e = rw (e, playing)

-- and ends at one that is not
pub playing_ends : (forms : List Shape) (limit : ℕ) (start leads : List Lead) (f : ℕ) (fs : List ℕ) → free forms limit leads f ≡ false → playing forms limit start leads (f ∷ fs) ≡ start
unfolding playing
playing_ends forms limit start leads f fs e = rw (e, playing)

module _ (forms : List Shape) (limit : ℕ) (start : List Lead) where
  -- the first lead of a play is free where the play gets past it
  pub reached_first : (leads : List Lead) (f : ℕ) (fs : List ℕ) (m : ℕ) → Reached forms limit leads (f ∷ fs) (suc m) → Free forms limit leads f
  unfolding rung
  reached_first leads f fs m r = r.1 0 (omega arith)

  -- and the rest of the play is reached from the leads with it
  pub reached_rest : (leads : List Lead) (f : ℕ) (fs : List ℕ) (m : ℕ) → Reached forms limit leads (f ∷ fs) (suc m) → Reached forms limit (added forms leads f) fs m
  unfolding rung
  reached_rest leads f fs m r = (omega (arith, r.0), λ i l. r.1 (suc i) (omega arith))

  -- every lead is free, so that all are rung
  plays_all : (leads : List Lead) (fs : List ℕ) → Reached forms limit leads fs (length fs) → playing forms limit start leads fs ≡ rung forms leads fs
  unfolding playing rung
  plays_all leads [] r = refl
  plays_all leads (f ∷ fs) r = playing_adds forms limit start leads f fs (free_true forms limit leads f (reached_first leads f fs (length fs) r)) ∙ (plays_all (added forms leads f) fs (reached_rest leads f fs (length fs) r))

  -- the lead at m is not free, so that all go again
  plays_none : (leads : List Lead) (fs : List ℕ) (m : ℕ) (e : RingFault) → m < length fs → Reached forms limit leads fs m
      → Turned forms limit (rung forms leads (take m fs)) (get_or fs m 0) e → playing forms limit start leads fs ≡ start
  unfolding playing rung
  plays_none leads [] m e l r t = absurd (omega arith)
  plays_none leads (f ∷ fs) zero e l r t = playing_ends forms limit start leads f fs (free_false forms limit leads f e t)
  plays_none leads (f ∷ fs) (suc m) e l r t =
      playing_adds forms limit start leads f fs (free_true forms limit leads f (reached_first leads f fs m r)) ∙ (plays_none (added forms leads f) fs m e (omega arith) (reached_rest leads f fs m r) t)

-- a ring is a play of one, and one lead is taken from the end
pub which_stand : WhichStand
unfolding after playing
which_stand = record {
  ring_adds = λ forms limit leads f h. playing_adds forms limit leads leads f [] (free_true forms limit leads f h);
  ring_refused = λ forms limit leads f e t. playing_ends forms limit leads leads f [] (free_false forms limit leads f e t);
  play_adds = λ forms limit leads fs r. plays_all forms limit leads leads fs r;
  play_refused = λ forms limit leads fs m e l r t. plays_none forms limit leads leads fs m e l r t;
  take_back = λ forms limit front l. take_at front (l ∷ []) (length (front ++ l ∷ []) - 1) (omega (arith, length_push front l));
  take_back_none = λ forms limit. refl;
  verdict_none = λ forms limit leads n. refl;
}

-- the calls before are gone through first
standing_push : (forms : List Shape) (limit : ℕ) (leads : List Lead) (calls : List (Call (List ℕ))) (c : Call (List ℕ))
    → standing_from forms limit leads (calls ++ c ∷ []) ≡ after forms limit (standing_from forms limit leads calls) c
unfolding standing_from
standing_push forms limit leads [] c = refl
standing_push forms limit leads (d ∷ calls) c = standing_push forms limit (after forms limit leads d) calls c

-- the leads after one call more are those after that call
pub goes_on : (forms : List Shape) (limit : ℕ) (calls : List (Call (List ℕ))) (c : Call (List ℕ)) → standing forms limit (calls ++ c ∷ []) ≡ after forms limit (standing forms limit calls) c
goes_on forms limit calls c = standing_push forms limit [] calls c
