use Rattle.std.proofs.Common.{◌≤◌, length, sym, refl, ap, ◌∙◌, arith}
use Rattle.registers.proofs.Entries.{last_mark_last, without_last_last}
use Rattle.registers.proofs.Holding.{last_entry, tree_apart}
use Rattle.registers.proofs.Reaching.{found_fewer}
use Rattle.registers.proofs.tree.calls.SearchTreeRegister.take_back.Goals as goal
use Rattle.registers.specs.Entries.{last_mark, without_last, with_entries}
use Rattle.registers.specs.Nodes.{entry_of, node_at, tree_entries}
use Rattle.registers.specs.Shelves.{tree_shelf}

pub invariant_of-self : goal.invariant_of-self
invariant_of-self g c =
    let t = c.args.self.now in
    let n = c.in_ok-last.last in
    let last = rw c.in_ok-last.ensures.ok_part at c.checked_sub.ensures in
    let room : n ≤ length t.nodes.now = omega (arith, t.room) in
    let found = found_fewer t.nodes.now n t.count (omega arith) t.upward t.found in
    record { room = room; few = omega (arith, t.few); upward = (λ l w. t.upward l (omega arith)); found = found; apart = tree_apart t.nodes.now n room found }

pub returns : goal.returns
unfolding tree_shelf
returns g c =
    let t = c.args.self.now in
    let n = c.in_ok-last.last in
    let last = rw c.in_ok-last.ensures.ok_part at c.checked_sub.ensures in
    let es = tree_entries t.nodes.now n in
    let e = entry_of (node_at t.nodes.now n) in
    let all = last_entry t.nodes.now t.count n (omega arith) t.room in
    record {
      answer = sym (ap last_mark all ∙ last_mark_last es e);
      after = ap (λ xs. with_entries xs (tree_shelf t)) (sym (ap without_last all ∙ without_last_last es e));
      lent = refl;
    }
