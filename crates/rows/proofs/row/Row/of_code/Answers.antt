use Rattle.std.proofs.Common.{◌≡◌, ℕ, suc, ◌+◌, ◌-◌, ◌/◌, ◌%◌, ◌≤◌, List, length, take, sym, refl, ap, ◌∙◌, subst, add-one, arith}
use Rattle.rows.specs.Code.{inserted}
use Rattle.rows.specs.Rows.{bell_in, On}
use Rattle.rows.proofs.Decoding.{decoded, left, left_some, decoded_row, decoded_code, decoded_first, left_first, inserted_decoded, inserted_on, decoded_most}
use Rattle.rows.proofs.row.Row.of_code.Goals as goal

pub loop-at-init : goal.loop-at-init
loop-at-init c =
    let e = c.rounds.ensures.value in
    record { long = ap length e; front = ap (take 1) e ∙ sym (decoded_first c.args.code); rest = sym (left_first c.args.code); covers = c.rounds.ensures.stage 1 }

pub insert-requires : goal.insert-requires
insert-requires c = (record { at_bound = omega arith; by_index = λ i l. omega (arith, decoded_most c.loop-at.at c.args.code c.loop-at.bells c.loop-at.invariant.front i l) })

pub loop-at-preserved : goal.loop-at-preserved
unfolding left
loop-at-preserved c =
    let k = c.loop-at.at in
    let a = c.loop-at.bells in
    let v = k + 1 - c.loop-at.rest % (k + 1) in
    let z : k + 1 ≡ suc k = add-one k in
    let r : c.loop-at.rest ≡ left k c.args.code = c.loop-at.invariant.rest in
    let d : v ≡ suc k - left k c.args.code % suc k = cc in
    let l : k ≤ length a = omega arith in
    let is : c.insert.new.bells ≡ inserted k v a = c.insert.ensures in
    record {
      long = c.insert.array_long;
      front = rw z (ap (take (suc k)) is ∙ inserted_decoded k c.args.code v a l c.loop-at.invariant.front d);
      rest = rw z (ap (λ (x : ℕ). x / suc k) r);
      covers = λ p h m. ap (λ (x : List ℕ). bell_in x p) is ∙ inserted_on k v a l c.loop-at.invariant.covers p (omega arith) m;
    }

-- after the last turn the first bells are decoded, and the others stand in their own places
whole : (n k code : ℕ) (a : List ℕ) → k ≡ n → take k a ≡ decoded k code → On k a → (take n a ≡ decoded n code) × On n a
whole n k code a e t on = subst (λ (j : ℕ). (take j a ≡ decoded j code) × On j a) e (t, on)

pub returns-then-rest-gt0 : goal.returns-then-rest-gt0
returns-then-rest-gt0 c =
    let e : c.loop-at.at ≡ c.args.stage.bells = omega arith in
    (refl, left_some c.args.stage.bells c.args.code (omega (arith, ap (λ (k : ℕ). left k c.args.code) e)))

pub invariant_of-result : goal.invariant_of-result
invariant_of-result c =
    let n = c.args.stage.bells in
    let a = c.loop-at.bells in
    let (t, on) = whole n c.loop-at.at c.args.code a (omega arith) c.loop-at.invariant.front c.loop-at.invariant.covers in
    record { once = decoded_row n c.args.code a c.args.stage.most c.loop-at.invariant.long on t }

pub returns : goal.returns
returns c =
    let n = c.args.stage.bells in
    let a = c.loop-at.bells in
    let e : c.loop-at.at ≡ n = omega arith in
    let (t, on) = whole n c.loop-at.at c.args.code a e c.loop-at.invariant.front c.loop-at.invariant.covers in
    let r : c.loop-at.rest ≡ left n c.args.code = c.loop-at.invariant.rest ∙ ap (λ (k : ℕ). left k c.args.code) e in
    decoded_code n c.args.code a c.args.stage.most c.loop-at.invariant.long on t (omega arith)
