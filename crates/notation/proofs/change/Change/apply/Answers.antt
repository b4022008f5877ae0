use Rattle.std.proofs.Common.{◌≡◌, sym, ◌∙◌, subst, arith}
use Rattle.notation.proofs.Effects.{ringing_none, ringing_all, ringing_stay, ringing_cross, both_cross, rung_row, rung_product, rung_on}
use Rattle.notation.proofs.change.Change.apply.Goals as goal
use Rattle.notation.proofs.change.Change.apply.Goals.{After-loop-p}
use Rattle.notation.specs.Changes.{rung}
use Rattle.rows.proofs.Members.{member}
use Rattle.rows.specs.Rows.{RowOf, On}

pub loop-p-init : goal.loop-p-init
loop-p-init c = (omega arith, ringing_none _ _ (member 12 _ c.args.row.now.once).long c.args.self.now.rings)

pub loop-p-preserved-then-self-p : goal.loop-p-preserved-then-self-p
loop-p-preserved-then-self-p c = (omega arith, ringing_stay _ _ _ c.loop-p.p c.args.self.now.twelve (omega arith) c.loop-p.invariant.1 c.if-self-p.true)

pub swap-requires : goal.swap-requires
swap-requires c =
    let next = both_cross _ _ _ c.loop-p.p c.args.self.now.twelve (omega arith) c.loop-p.invariant.1 c.if-self-p.false in
    record { a_in_bounds = omega (arith, c.loop-p.invariant.1.long); b_in_bounds = omega (arith, next.0, c.loop-p.invariant.1.long) }

pub loop-p-preserved : goal.loop-p-preserved
loop-p-preserved c =
    let next = both_cross _ _ _ c.loop-p.p c.args.self.now.twelve (omega arith) c.loop-p.invariant.1 c.if-self-p.false in
    (omega (arith, next.0), ringing_cross _ _ _ c.loop-p.p c.args.self.now.twelve (omega arith) c.loop-p.invariant.1 _ c.if-self-p.false (c.swap.ensures.by_index.3 0))

-- the loop has rung the change
changed : (c : After-loop-p) → c.loop-p.bells ≡ rung c.args.self.now.made c.args.row.now.bells
changed c = ringing_all _ _ _ c.loop-p.p c.args.self.now.twelve (omega arith) c.loop-p.invariant.1

pub invariant_of-result : goal.invariant_of-result
invariant_of-result c = record { once = subst (RowOf 12) (sym (changed c)) (rung_row 12 _ _ c.args.row.now.once) }

pub returns : goal.returns
returns c =
    let is = changed (goal.at.returns c).After-loop-p in
    record {
      value = is;
      product = is ∙ rung_product 12 _ _ (member 12 _ c.args.row.now.once).long;
      stage = λ n d o. subst (On n) (sym is) (rung_on n _ _ d o);
    }
