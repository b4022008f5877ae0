-- What a rank table and a search tree hold.
use Rattle.std.specs.Prelude.{ℕ, ◌*◌, [], length}
use Rattle.registers.specs.Cells.{rank_entries}
use Rattle.registers.specs.Entries.{Shelf, NoCodeTwice, with_entries}
use Rattle.registers.specs.Lent.{used}
use Rattle.registers.specs.Nodes.{tree_entries}
use Rattle.registers.specs.declared.rank.rank_table.RankTable.{RankTable}
use Rattle.registers.specs.declared.tree.search_tree.SearchTree.{SearchTree}
use Rattle.rows.specs.Code.{fact}

-- a table over so many cells, and a tree over so many nodes, before anything is entered
abbrev pub empty_table : ℕ → Shelf
empty_table lent = record { reach = used lent; capacity = used lent; entries = [] }

abbrev pub empty_tree : ℕ → Shelf
empty_tree lent = record { reach = 256 * fact 12; capacity = used lent; entries = [] }

-- what a table holds, no code twice
unfoldable pub table_shelf : {K : Type 0} → RankTable K → Shelf
table_shelf t = with_entries (rank_entries t.cells.now t.last) (empty_table (length t.cells.now))

pub table_apart : {K : Type 0} (t : RankTable K) → NoCodeTwice (table_shelf t).entries
unfolding table_shelf
table_apart t = t.apart

-- what a tree holds, no code twice
unfoldable pub tree_shelf : {K : Type 0} → SearchTree K → Shelf
tree_shelf t = with_entries (tree_entries t.nodes.now t.count) (empty_tree (length t.nodes.now))

pub tree_apart : {K : Type 0} (t : SearchTree K) → NoCodeTwice (tree_shelf t).entries
unfolding tree_shelf
tree_apart t = t.apart
