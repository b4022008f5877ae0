use Rattle.std.proofs.Common.{◌≡◌, ℕ, ◌-◌, ◌%◌, ◌<◌, Bool, true, cond, eqb, List, map, length, get_or, set, sym, ◌∙◌, inl, inr, ⊎_elim, arith}
use Rattle.notation.proofs.Making.{placing_all, placing_more, placing_refused, no_ends, with_ends}
use Rattle.notation.proofs.written.places_made.Goals as goal
use Rattle.notation.proofs.written.places_made.Goals.{Joined-first-eq0, then-first-eq0, else-first-eq0}
use Rattle.notation.specs.Changes.{ascend, made}
use Rattle.rows.specs.Text.{named}
use Rattle.std.proofs.lemmas.List.{get_or-map, length-map}
use Rattle.std.proofs.lemmas.Bool.{cond-true, cond-false, eq-eqb, ne_eqb}

-- the place that the digit at an index names
place_at : (digits : List ℕ) (i p : ℕ) → i < length digits → named (get_or digits i 0) ≡ p → get_or (map named digits) i 0 ≡ p
place_at digits i p l e = get_or-map named digits i 0 0 l ∙ e

-- each digit names one place
places_long : (digits : List ℕ) → length (map named digits) ≡ length digits
places_long digits = length-map digits named

pub returns-in_err-place : goal.returns-in_err-place
returns-in_err-place c =
    rw c.from_residual.ensures
    (placing_refused _ _ c.loop-digit.digit-index _ _ _ c.loop-digit.invariant 0 (omega (arith, places_long c.args.digits.now)) (place_at c.args.digits.now c.loop-digit.digit-index _ (omega arith) c.in_err-place.ensures)
    (inl (omega arith)))

pub returns-then-place-last : goal.returns-then-place-last
returns-then-place-last c =
    placing_refused _ _ c.loop-digit.digit-index _ _ _ c.loop-digit.invariant c.in_ok-place.place (omega (arith, places_long c.args.digits.now))
    (place_at c.args.digits.now c.loop-digit.digit-index _ (omega arith) c.in_ok-place.ensures.1) (⊎_elim inl (λ h. inr h.1) c.then-place-last.either)

pub loop-digit-preserved : goal.loop-digit-preserved
loop-digit-preserved c =
    rw c.or-first.ensures
    (placing_more _ _ c.loop-digit.digit-index _ _ _ c.loop-digit.invariant c.in_ok-place.place (omega (arith, places_long c.args.digits.now))
    (place_at c.args.digits.now c.loop-digit.digit-index _ (omega arith) c.in_ok-place.ensures.1) (omega arith) (omega arith) (omega arith))

-- whichever way control came, place 1 is made if the first place is even
front : (c : Joined-first-eq0) → c.if-first-eq0.made ≡ cond (eqb (c.in-Some.first % 2) 0) (set c.loop-digit.made 0 true) c.loop-digit.made
front c =
    elim c.if-first-eq0.branch [
      | then-first-eq0 w ↦ w.made-is ∙ sym (cond-true (eqb (c.in-Some.first % 2) 0) _ _ (eq-eqb (c.in-Some.first % 2) 0 w.if-first-eq0.true))
      | else-first-eq0 w ↦ w.made-is ∙ sym (cond-false (eqb (c.in-Some.first % 2) 0) _ _ (ne_eqb (c.in-Some.first % 2) 0 w.if-first-eq0.false))
    ]

-- then place n is made if it is to be, and so is the change
ends : (c : Joined-first-eq0) (b : List Bool)
    → b ≡ cond (eqb ((c.args.stage.bells - c.loop-digit.last) % 2) 1) (set c.if-first-eq0.made (c.args.stage.bells - 1) true) c.if-first-eq0.made
    → (ascend c.args.stage.bells 0 (map named c.args.digits.now) ≡ true) × (b ≡ made c.args.stage.bells (map named c.args.digits.now))
ends c b back =
    let all = placing_all _ _ c.loop-digit.digit-index _ _ _ c.loop-digit.invariant (omega (arith, places_long c.args.digits.now)) in
    (all.0, with_ends _ c.args.stage.least c.args.stage.most _ _ _ _ _ b (sym c.in-Some.is ∙ all.2) all.3 all.1 (front c) back)

pub returns-then-stage-last-eq1 : goal.returns-then-stage-last-eq1
returns-then-stage-last-eq1 c =
    ends (goal.at.returns-then-stage-last-eq1 c).Joined-first-eq0 _
    (sym (cond-true (eqb ((c.args.stage.bells - c.loop-digit.last) % 2) 1) _ _ (eq-eqb ((c.args.stage.bells - c.loop-digit.last) % 2) 1 c.if-stage-last-eq1.true)))

pub returns-else-stage-last-eq1 : goal.returns-else-stage-last-eq1
returns-else-stage-last-eq1 c =
    ends (goal.at.returns-else-stage-last-eq1 c).Joined-first-eq0 _
    (sym (cond-false (eqb ((c.args.stage.bells - c.loop-digit.last) % 2) 1) _ _ (ne_eqb ((c.args.stage.bells - c.loop-digit.last) % 2) 1 c.if-stage-last-eq1.false)))

pub returns-in_default : goal.returns-in_default
returns-in_default c =
    let all = placing_all _ _ c.loop-digit.digit-index _ _ _ c.loop-digit.invariant (omega (arith, places_long c.args.digits.now)) in
    (all.0, no_ends _ _ _ (sym c.in_default.is ∙ all.2) all.1)
