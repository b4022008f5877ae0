use Rattle.std.proofs.Common.{◌≡◌, ◌+◌, ◌-◌, ◌++◌, [], ◌∷◌, length, get_or, drop, take, sym, ap, ◌∙◌, arith}
use Rattle.notation.proofs.Drafting.{handed_back, listed_at, listed_long, mirrored_long, mirrored_more, taken}
use Rattle.notation.proofs.changes.Changes.double.Goals as goal
use Rattle.notation.proofs.changes.Changes.double.Goals.{At-loop-back}
use Rattle.notation.specs.Drafts.{listed, mirrored}
use Rattle.std.proofs.lemmas.List.{append_assoc, get_or_append_left, length-append, length-take, take_all}
use Rattle.std.specs.Option.{is_some}

-- to the changes that were there, those are added that the loop has gone over
longer : (c : At-loop-back) → c.loop-back.self.count ≡ c.args.self.now.count + length (take (c.loop-back.back - 1) (mirrored (drop c.args.from (listed c.args.self.now))))
longer c =
    let cs = listed c.args.self.now in
    omega (arith, listed_long c.loop-back.self, listed_long c.args.self.now, ap length c.loop-back.invariant, length-append cs (take (c.loop-back.back - 1) (mirrored (drop c.args.from cs))))

pub returns-in_err-ok-clause-again : goal.returns-in_err-ok-clause-again
returns-in_err-ok-clause-again c =
    let a = (goal.at.returns-in_err-ok-clause-again c).At-loop-back in
    let cs = listed c.args.self.now in
    let full = handed_back _ _ c.push.result (sym c.ok.ensures.variant ∙ ap is_some c.in_err-ok.was) c.push.ensures in
    rw c.from_residual.ensures (omega (arith, full.1.2, longer a, listed_long c.args.self.now, mirrored_long cs c.args.from, length-take (c.loop-back.back - 1) (mirrored (drop c.args.from cs))))

pub loop-back-preserved : goal.loop-back-preserved
loop-back-preserved c =
    let cs = listed c.args.self.now in
    let added = take (c.loop-back.back - 1) (mirrored (drop c.args.from cs)) in
    let i = c.args.self.now.count - 1 - c.loop-back.back in
    let change = get_or c.loop-back.self.list i c.index-self-end.result in
    let far = longer (goal.at.loop-back-preserved c).At-loop-back in
    let read : change.made ≡ get_or cs (length cs - 1 - c.loop-back.back) [] =
    listed_at c.loop-back.self i c.index-self-end.result (omega arith) ∙ ap (λ l. get_or l i []) c.loop-back.invariant
    ∙ get_or_append_left cs added [] i (omega (arith, listed_long c.args.self.now)) ∙ ap (λ n. get_or cs (n - 1 - c.loop-back.back) []) (sym (listed_long c.args.self.now)) in
    taken _ _ c.push.result (sym c.ok.ensures.variant ∙ ap is_some c.in_ok-ok.was) c.push.ensures
    ∙ ap (λ l. l ++ change.made ∷ []) c.loop-back.invariant ∙ append_assoc cs added (change.made ∷ [])
    ∙ ap (λ l. cs ++ l) (mirrored_more cs c.args.from c.loop-back.back [] change.made (omega arith) (omega (arith, listed_long c.args.self.now)) read)

pub returns-clause-again : goal.returns-clause-again
returns-clause-again c =
    let cs = listed c.args.self.now in
    c.loop-back.invariant ∙ ap (λ l. cs ++ l) (take_all (c.loop-back.back - 1) (mirrored (drop c.args.from cs)) (omega (arith, listed_long c.args.self.now, mirrored_long cs c.args.from)))

pub returns-clause-longer : goal.returns-clause-longer
returns-clause-longer c = omega (arith, longer (goal.at.returns-clause-longer c).At-loop-back)
