use Rattle.std.proofs.Common.{◌≡◌, ◌+◌, ◌<◌, ◌≤◌, length, set, sym, ap, ◌∙◌, arith, length-set}
use Rattle.registers.proofs.Hanging.{Grown, joined, hung, grown, leaf_upward, leaf_found}
use Rattle.registers.proofs.Holding.{tree_apart}
use Rattle.registers.proofs.tree.search_tree.SearchTree.hang.Goals as goal
use Rattle.registers.proofs.tree.search_tree.SearchTree.hang.Goals.{in-Some, in_default}
use Rattle.registers.specs.Entries.{with_entries}
use Rattle.registers.specs.Lent.{most}
use Rattle.registers.specs.Nodes.{leaf}
use Rattle.registers.specs.Shelves.{tree_shelf, empty_tree}

pub invariant_of-self : goal.invariant_of-self
unfolding tree_shelf
invariant_of-self g c =
    let t = c.args.self.now in
    let ns = t.nodes.now in
    let n = t.count in
    let a = c.unwrap_or.result in
    let few : n < most = omega arith in
    let room : n < length ns = omega arith in
    let found = leaf_found ns n c.args.code c.args.mark a room few t.upward t.found in
    let room' : n ≤ length (set ns n (leaf c.args.code c.args.mark a)) = rw length-set (omega arith) in
    record { room = room'; few = t.few; upward = leaf_upward ns n c.args.code c.args.mark a room few t.upward t.found; found = found; apart = tree_apart _ n room' found }

pub invariant_of-self-2 : goal.invariant_of-self-2
unfolding tree_shelf
invariant_of-self-2 g c =
    let t = c.args.self.now in
    let ns = t.nodes.now in
    let n = t.count in
    let k = c.args.code in
    let m = c.args.mark in
    let ls = set ns n (leaf k m c.unwrap_or.result) in
    let ms = c.match-above.self.1.0.now in
    let is : ms ≡ hung ns n k m c.args.above = elim c.match-above.branch [
      | in-Some w ↦ ap (λ s. s.1.0.now) w.self-is ∙ ap (set ls w.in-Some.above) w.link.ensures ∙ ap (joined ls k n) (sym w.in-Some.is)
      | in_default w ↦ ap (λ s. s.1.0.now) w.self-is ∙ ap (joined ls k n) (sym w.in_default.is)
    ] ∙ ap (λ a. joined (set ns n (leaf k m a)) k n c.args.above) c.unwrap_or.ensures in
    let r : Grown ns n k m ms = rw is (grown ns n k m c.args.above c.requires.room t.upward t.found c.requires.place) in
    let room : n + 1 ≤ length ms = omega (arith, r.long) in
    record { room = room; few = omega arith; upward = r.upward; found = r.found; apart = tree_apart ms (n + 1) room r.found }

pub returns : goal.returns
unfolding tree_shelf
returns g c =
    let t = c.args.self.now in
    let ns = t.nodes.now in
    let n = t.count in
    let k = c.args.code in
    let m = c.args.mark in
    let ls = set ns n (leaf k m c.unwrap_or.result) in
    let ms = c.match-above.self.1.0.now in
    let is : ms ≡ hung ns n k m c.args.above = elim c.match-above.branch [
      | in-Some w ↦ ap (λ s. s.1.0.now) w.self-is ∙ ap (set ls w.in-Some.above) w.link.ensures ∙ ap (joined ls k n) (sym w.in-Some.is)
      | in_default w ↦ ap (λ s. s.1.0.now) w.self-is ∙ ap (joined ls k n) (sym w.in_default.is)
    ] ∙ ap (λ a. joined (set ns n (leaf k m a)) k n c.args.above) c.unwrap_or.ensures in
    let r : Grown ns n k m ms = rw is (grown ns n k m c.args.above c.requires.room t.upward t.found c.requires.place) in
    let loan : c.match-above.self.1.0.ghost_name ≡ t.nodes.ghost_name = elim c.match-above.branch [ in-Some w ↦ ap (λ s. s.1.0.ghost_name) w.self-is | in_default w ↦ ap (λ s. s.1.0.ghost_name) w.self-is ] in
    record { after = λ i. with_entries (r.list i) (empty_tree (r.long i)); lent = record { loan = loan; beyond = (r.long, r.beyond) } }
