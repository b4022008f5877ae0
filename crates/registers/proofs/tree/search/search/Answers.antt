use Rattle.std.proofs.Common.{◌≡◌, length, Some, None, sym, ◌∙◌, rules}
use Rattle.registers.proofs.Walking.{under, stop_ends, stop_next}
use Rattle.registers.proofs.tree.search.search.Goals as goal
use Rattle.registers.specs.Nodes.{below, Ends}

pub returns-in_err-at : goal.returns-in_err-at
returns-in_err-at c =
    let ns = c.args.nodes.now in
    let n = length ns in
    let at = c.loop-at.at in
    let none : below ns n at c.args.code ≡ None = sym c.below.ensures ∙ c.in_err-at.ensures.ok_part in
    let ends : Ends ns n c.args.code (Some at) = (c.loop-at.invariant.0, sym (stop_ends ns n c.args.code n at c.loop-at-test.true none) ∙ c.loop-at.invariant.1, c.loop-at-test.true) in
    search rules

pub loop-at-preserved : goal.loop-at-preserved
loop-at-preserved c =
    let ns = c.args.nodes.now in
    let n = length ns in
    let at = c.loop-at.at in
    let next = c.in_ok-at.at in
    let e : below ns n at c.args.code ≡ Some next = sym c.below.ensures ∙ c.in_ok-at.ensures.ok_part in
    ((under ns n at c.args.code next e).within, stop_next ns n c.args.code at next c.requires c.loop-at.invariant.0 c.loop-at-test.true e ∙ c.loop-at.invariant.1)
