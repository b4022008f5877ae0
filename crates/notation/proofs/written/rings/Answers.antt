use Rattle.std.proofs.Common.{◌+◌, ◌≤◌, length, sym, ◌∙◌, arith, rules}
use Rattle.notation.proofs.Making.{crosses_stay, crosses_both, crosses_apart, crosses_alone, crosses_end}
use Rattle.notation.proofs.written.rings.Goals as goal
use Rattle.notation.proofs.written.rings.Goals.{in_default-via-in-None-1, in_default-via-in-Some-get+else-not-next}
use Rattle.notation.specs.Changes.{can_ring}

pub loop-stays-preserved-then-stays : goal.loop-stays-preserved-then-stays
loop-stays-preserved-then-stays c =
    let at = c.in-Some.ensures.lookup.3 in
    (omega arith, c.loop-stays.invariant.1 ∙ crosses_stay _ c.loop-stays.p c.loop-stays.crossed at.0 (sym (at.1 _) ∙ c.if-stays.true))

pub loop-stays-preserved : goal.loop-stays-preserved
loop-stays-preserved c =
    let at = c.in-Some.ensures.lookup.3 in
    let next = c.in-Some-get.ensures.lookup.3 in
    (omega arith, c.loop-stays.invariant.1 ∙ crosses_both _ c.loop-stays.p c.loop-stays.crossed at.0 next.0 (sym (at.1 _) ∙ c.if-stays.false) (sym (next.1 _) ∙ c.if-not-next.true))

pub returns-in_default : goal.returns-in_default
unfolding can_ring
returns-in_default c =
    let at = c.in-Some.ensures.lookup.3 in
    sym (c.loop-stays.invariant.1 ∙ elim c.in_default.branch [
      | in_default-via-in-None-1 w ↦
          let none : length c.args.made.now ≤ c.loop-stays.p + 1 = search rules in
          crosses_alone _ c.loop-stays.p c.loop-stays.crossed at.0 none (sym (at.1 _) ∙ c.if-stays.false)
      | in_default-via-in-Some-get+else-not-next w ↦
          let next = w.in-Some-get.ensures.lookup.3 in
          crosses_apart _ c.loop-stays.p c.loop-stays.crossed at.0 next.0 (sym (at.1 _) ∙ c.if-stays.false) (sym (next.1 _) ∙ w.if-not-next.false)
    ])

pub returns : goal.returns
unfolding can_ring
returns c = sym (c.loop-stays.invariant.1 ∙ crosses_end _ c.loop-stays.p c.loop-stays.crossed c.in_default.ensures.lookup.3)
