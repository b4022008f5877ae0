-- A block that is whole: doubled if it says so, and held to the limit.
use Rattle.std.proofs.Common.{◌≡◌, ℕ, ◌+◌, ◌<◌, ◌≤◌, Bool, true, false, cond, ltb, List, [], ◌∷◌, ◌++◌, map, length, drop, Ok, Err, sym, refl, ap, ◌∙◌, subst, arith}
use Rattle.notation.proofs.Drafting.{listed_long, map_mirrored}
use Rattle.notation.specs.Changes.{ascending, can_ring, made}
use Rattle.notation.specs.Drafts.{Drafted, Holds, Whole, is_amp, listed, mirrored}
use Rattle.notation.specs.Grammar.{Sign, doubled}
use Rattle.notation.specs.Reading.{State, goes, halts, fresh, crossed, add, all_changes, close}
use Rattle.notation.specs.Written.{Written}
use Rattle.notation.specs.declared.change.Change.{Change}
use Rattle.notation.specs.declared.changes.Changes.{Changes}
use Rattle.notation.specs.declared.draft.Draft.{Draft}
use Rattle.notation.specs.declared.fault.Fault.{Fault}
use Rattle.notation.specs.declared.fault.Fault.TheVariants.{Many, Places, Unrung}
use Rattle.std.proofs.lemmas.List.{append_assoc, drop_at, length-append, length-map, map-append, map_push}
use Rattle.std.proofs.lemmas.Bool.{both_ways, cond-false, cond-true, le-ltb}

doubled_amp : (s : Sign) (bs : List (List ℕ)) → is_amp s ≡ true → doubled s bs ≡ bs ++ mirrored bs
doubled_amp Sign.none bs e = absurd (both_ways false refl e)
doubled_amp Sign.amp bs e = refl
doubled_amp Sign.plus bs e = absurd (both_ways false refl e)

module _ (n : ℕ) (st : State) where
  -- a block with `&` is followed by its changes except the last, backwards
  pub twice : (cs : List (List Bool)) (b : ℕ) → cs ≡ map (made n) (st.whole ++ st.block) → b ≡ length st.whole → is_amp st.sign ≡ true
      → cs ++ mirrored (drop b cs) ≡ map (made n) (all_changes st)
  twice cs b h at e =
      let ws = map (made n) st.whole in
      let bs = map (made n) st.block in
      let parts : cs ≡ ws ++ bs = h ∙ map-append (made n) st.whole st.block in
      let behind : drop b cs ≡ bs = ap (drop b) parts ∙ drop_at ws bs b (length-map st.whole (made n) ∙ sym at) in
      (λ i. parts i ++ mirrored (behind i)) ∙ append_assoc ws bs (mirrored bs)
      ∙ sym (ap (λ xs. map (made n) (st.whole ++ xs)) (doubled_amp st.sign st.block e) ∙ map-append (made n) st.whole (st.block ++ mirrored st.block)
      ∙ ap (λ xs. ws ++ xs) (map-append (made n) st.block (mirrored st.block) ∙ ap (λ xs. bs ++ xs) (map_mirrored (made n) st.block)))

  -- changes that are listed are at most 64
  pub whole_listed : (c : Changes) → listed c ≡ map (made n) (all_changes st) → Whole n st (Ok c)
  whole_listed c h = (omega (arith, ap length h, listed_long c, length-map (all_changes st) (made n), c.few), h)

  -- a block with `&` whose changes have no room when they are doubled has too many
  pub whole_many : (c : Changes) (b : ℕ) (f : Fault) → listed c ≡ map (made n) (st.whole ++ st.block) → b ≡ length st.whole → is_amp st.sign ≡ true → f ≡ Many st.from
      → 64 < c.count + length (mirrored (drop b (listed c))) → Whole n st (Err f)
  whole_many c b f h at e is m =
      (omega (arith, ap length (twice (listed c) b h at e), length-append (listed c) (mirrored (drop b (listed c))), listed_long c, length-map (all_changes st) (made n)), is)

  -- the block is whole, and nothing of the next is read
  abbrev pub closed : ℕ → State
  closed j = record { whole = all_changes st; from = j; sign = Sign.none; block = []; seen = fresh }

  pub close_goes : (j : ℕ) → length (all_changes st) ≤ 64 → close j st ≡ goes (closed j)
  close_goes j few = cond-false (ltb 64 (length (all_changes st))) (halts (Many st.from)) (goes (closed j)) (le-ltb 64 (length (all_changes st)) few)

  -- the state with one change more
  abbrev pub with_change : List ℕ → State
  with_change ws = record { whole = st.whole; from = st.from; sign = st.sign; block = st.block ++ ws ∷ []; seen = crossed }

  -- a change that is written goes in
  pub add_goes : (c : Change) (p : ℕ) (ws : List ℕ) → Written n ws p (Ok c) → add n p ws st ≡ goes (with_change ws)
  add_goes c p ws w =
      cond-true (ascending n ws) (cond (can_ring (made n ws)) (goes (with_change ws)) (halts (Unrung p))) (halts (Places p)) w.0
      ∙ cond-true (can_ring (made n ws)) (goes (with_change ws)) (halts (Unrung p)) (subst (λ m. can_ring m ≡ true) w.1 c.rings)

  -- the draft is as it was, but for one change more in hand
  pub grown : (c : Change) (p : ℕ) (ws : List ℕ) (d e : Draft) → Written n ws p (Ok c) → Drafted n d st
      → e.stage ≡ d.stage → e.block ≡ d.block → e.from ≡ d.from → e.doubles ≡ d.doubles → Holds e.changes (map (made n) (st.whole ++ st.block) ++ c.made ∷ []) → Drafted n e (with_change ws)
  grown c p ws d e w r stage block from doubles holds =
      let more = ap (λ m. map (made n) (st.whole ++ st.block) ++ m ∷ []) w.1 ∙ sym (ap (map (made n)) (sym (append_assoc st.whole st.block (ws ∷ []))) ∙ map_push (made n) (st.whole ++ st.block) ws) in
      record {
        stage = ap (λ s. s.bells) stage ∙ r.stage;
        holds = subst (Holds e.changes) more holds;
        block = block ∙ r.block;
        from = from ∙ r.from;
        doubles = doubles ∙ r.doubles;
      }
