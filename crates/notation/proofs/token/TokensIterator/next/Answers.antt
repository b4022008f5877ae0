use Rattle.std.proofs.Common.{◌≡◌, ℕ, ◌+◌, ◌-◌, List, length, get_or, take, drop, sym, refl, ap, ◌∙◌, inr, arith, rules}
use Rattle.notation.proofs.token.TokensIterator.next.Goals as goal
use Rattle.notation.proofs.token.TokensIterator.next.Goals.{in-45, in-46, in-44, in-38, in-43, in_default+in-empty, in_default+in_default-run}
use Rattle.rows.specs.Text.{named}
use Rattle.std.proofs.lemmas.List.{get_or-drop, length-drop, length-take, take_rest}

-- what names no bell behind the first k bytes from index j on stands at j + k
stops_at : (t : List ℕ) (j k : ℕ) → named (get_or (take (length t - j) (drop j t)) k 0) ≡ 0 → named (get_or t (j + k) 0) ≡ 0
stops_at t j k e = sym (ap named (ap (λ l. get_or l k 0) (take_rest t j) ∙ get_or-drop j t k 0)) ∙ e

pub returns-clause-steps : goal.returns-clause-steps
returns-clause-steps c =
    let t = c.args.self.now.text.now in
    let j = c.args.self.now.at in
    let byte = c.in_ok-byte.ensures.lookup in
    elim c.match-byte.branch [
      | in-45 w ↦ search rules
      | in-46 w ↦ search rules
      | in-44 w ↦ search rules
      | in-38 w ↦ search rules
      | in-43 w ↦ search rules
      | in_default+in-empty w ↦
          let here : j ≡ j + length w.run.result.now = omega arith in
          let none : named (get_or t j 0) ≡ 0 = ap (λ k. named (get_or t k 0)) here ∙ stops_at t j (length w.run.result.now) w.run.ensures.stops in
          let same : c.in_ok-byte.field-0.now ≡ get_or t j 0 = byte.3.1 0 in
          search rules
      | in_default+in_default-run w ↦
          let ds = w.run.result.now in
          let front = w.run.ensures.front ∙ ap (take (length ds)) (take_rest t j) in
          let some = w.in_default-run.len_at_least in
          let back : j + length ds - j ≡ length ds = omega arith in (
            ap (λ x. x.text.now) w.self-is,
            rw w.self-is (rw w.result-is (
              refl,
              omega arith,
              omega (arith, byte.3.0, ap length front, length-take (length ds) (drop j t), length-drop j t),
              rw back front,
              w.run.ensures.bells,
              inr (stops_at t j (length ds) w.run.ensures.stops),
            )),
          )
    ]
