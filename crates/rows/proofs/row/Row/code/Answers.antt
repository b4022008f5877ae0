use Rattle.std.proofs.Common.{◌≡◌, ◌+◌, ◌-◌, ◌*◌, ◌<◌, sym, refl, ap, ◌∙◌, arith}
use Rattle.rows.specs.Code.{fact, code_to}
use Rattle.rows.proofs.Codes.{weight_next, code_next, fact_fits, code_small, has_its_code}
use Rattle.rows.proofs.Digits.{code_below}
use Rattle.rows.proofs.row.Row.code.Goals as goal

pub loop-at-init : goal.loop-at-init
unfolding fact code_to
loop-at-init c = (refl, refl)

pub overflow_mul-weight : goal.overflow_mul-weight
overflow_mul-weight c = omega (arith, weight_next c.loop-at.at c.loop-at.weight (omega arith) c.loop-at.invariant.0, fact_fits c.loop-at.at (omega arith))

pub loop-at-preserved : goal.loop-at-preserved
loop-at-preserved c =
    let a = c.args.self.now.bells in
    let k = c.loop-at.at in
    let e : k + 1 - 1 ≡ k = omega arith in
    let w : c.loop-at.weight * k ≡ fact k = weight_next k c.loop-at.weight (omega arith) c.loop-at.invariant.0 in
    let d : c.loop-at.code ≡ code_to a k = c.loop-at.invariant.1 in
    let g = c.count_greater.ensures in
    let n = code_next a k in
    (w ∙ ap fact (sym e), cc)

-- the code so far with the next place added is below 12!
bounded : (c : goal.After-count_greater) → c.loop-at.code + c.count_greater.result * (c.loop-at.weight * c.loop-at.at) < 479001600
bounded c =
    let k = c.loop-at.at in
    omega (arith, (loop-at-preserved c).1, code_below c.args.self.now.bells (k + 1), fact_fits (k + 1) (omega arith))

pub overflow_mul-code : goal.overflow_mul-code
overflow_mul-code c = omega (arith, bounded c)

pub overflow_add-code : goal.overflow_add-code
overflow_add-code c = omega (arith, bounded c)

pub returns : goal.returns
returns c =
    let a = c.args.self.now.bells in
    let e : c.loop-at.at ≡ 12 = omega arith in
    let v : c.loop-at.code ≡ code_to a 12 = c.loop-at.invariant.1 ∙ ap (code_to a) e in
    record {
      value = v;
      below = λ n l on. omega (arith, v, code_small n a c.args.self.now.once on l);
      back = λ n on. has_its_code n c.loop-at.code a c.args.self.now.once on (sym v);
    }
