use Rattle.std.proofs.Common.{ℕ, Ok, Err, Option, Result, MatchResult}
use Rattle.registers.proofs.Holding.{tree_held, tree_none}
use Rattle.registers.proofs.Writing.{has_all, ends_all}
use Rattle.registers.proofs.tree.search_tree.SearchTree.seek.Goals as goal
use Rattle.registers.specs.Shelves.{tree_shelf}

-- what is known of either answer gives what is promised of it
either : {P P' : ℕ → Type 0} {Q Q' : Option ℕ → Type 0} → ((m : ℕ) → P m → P' m) → ((o : Option ℕ) → Q o → Q' o) → (r : Result ℕ (Option ℕ)) → MatchResult r P Q → MatchResult r P' Q'
either f g (Ok m) h = f m h
either f g (Err o) h = g o h

pub returns : goal.returns
unfolding tree_shelf
returns g c =
    let t = c.args.self.now in
    let ns = t.nodes.now in
    let n = t.count in
    let k = c.args.code in
    either (λ m h. tree_held ns n t.room t.found k m (has_all ns n k t.room m h))
    (λ o h. let e = ends_all ns n k t.room o h in (tree_none ns n t.room t.found k o e, e))
    c.search.result c.search.ensures
