use Rattle.std.proofs.Common.{◌≡◌, sym, subst, arith}
use Rattle.rows.proofs.Group.{inverse_row, inverse_on, inverse_more, inverse_from, inverse_times, times_inverse, inverse_places}
use Rattle.rows.proofs.Members.{member}
use Rattle.rows.proofs.row.Row.inverse.Goals as goal
use Rattle.rows.proofs.row.Row.inverse.Goals.{After-loop-p}
use Rattle.rows.specs.Rows.{rounds, bell_in, times, inverse, RowOf, On}
use Rattle.std.proofs.lemmas.List.{length-set}

pub overflow_sub-bells : goal.overflow_sub-bells
overflow_sub-bells c = (member 12 _ c.args.self.now.once).low c.loop-p.p (omega arith)

pub bounds-bells-bell : goal.bounds-bells-bell
bounds-bells-bell c =
    let low = (member 12 _ c.args.self.now.once).low c.loop-p.p (omega arith) in
    let high = (member 12 _ c.args.self.now.once).high c.loop-p.p (omega arith) in
    omega arith

pub loop-p-preserved : goal.loop-p-preserved
loop-p-preserved c = (
  simp length-set c.loop-p.invariant.0,
  inverse_more 12 _ c.args.self.now.once c.loop-p.bells c.loop-p.p c.loop-p.invariant.0 (omega arith) c.loop-p.invariant.1,
)

-- the loop has put each bell in its place of the inverse
inverted : (c : After-loop-p) → c.loop-p.bells ≡ inverse 12 c.args.self.now.bells
inverted c = inverse_from 12 _ c.args.self.now.once c.loop-p.bells c.loop-p.invariant.0 (λ k l. c.loop-p.invariant.1 k (omega arith))

pub invariant_of-result : goal.invariant_of-result
invariant_of-result c = record { once = subst (RowOf 12) (sym (inverted c)) (inverse_row 12 _ c.args.self.now.once) }

pub returns : goal.returns
returns c =
    let is = inverted (goal.at.returns c).After-loop-p in
    let a = c.args.self.now.bells in
    let r = c.args.self.now.once in
    record {
      value = is;
      stage = λ n o. subst (On n) (sym is) (inverse_on n a r o);
      undone = subst (λ b. (times b a ≡ rounds 12) × (times a b ≡ rounds 12)) (sym is) (inverse_times 12 a r, times_inverse 12 a r);
      placed = λ p lo hi. subst (λ b. bell_in b (bell_in a p) ≡ p) (sym is) (inverse_places 12 a r p lo hi);
    }
