-- The nodes of a search tree, the first n of which are its entries in the order of entering.
use Rattle.std.specs.Prelude.{◌≡◌, ℕ, ◌<◌, ◌≢◌, zero, suc, Bool, cond, ◌&&◌, List, map, take, Some, None, Option, ◌==◌, nat_lt, slice_index_or}
use Rattle.registers.specs.Entries.{Entry}
use Rattle.registers.specs.declared.tree.node.Node.{Node}

abbrev pub entry_of : Node → Entry
entry_of x = record { code = x.code; mark = x.mark }

abbrev pub tree_entries : List Node → ℕ → List Entry
tree_entries ns n = map entry_of (take n ns)

abbrev pub node_at : List Node → ℕ → Node
node_at ns i = slice_index_or ns i (record { code = 0; mark = 0; above = 0; low = None; high = None })

-- a node without links
abbrev pub leaf : ℕ → ℕ → ℕ → Node
leaf code mark above = record { code = code; mark = mark; above = above; low = None; high = None }

-- the node with a link on the side of code k
abbrev pub linked : Node → ℕ → ℕ → Node
linked x k to = cond (nat_lt k x.code) (record { code = x.code; mark = x.mark; above = x.above; low = Some to; high = x.high }) (record { code = x.code; mark = x.mark; above = x.above; low = x.low; high = Some to })

-- codes l and k lie on the same side of code c
abbrev pub beside : ℕ → ℕ → ℕ → Bool
beside c k l = cond (nat_lt k c) (nat_lt l c) (nat_lt c l)

-- a link counts where it leads to one of the first n nodes that names this one as above it and stands on that side
abbrev pub counts : List Node → ℕ → ℕ → ℕ → ℕ → Bool
counts ns n i k l = nat_lt l n && ((node_at ns l).above == i && beside (node_at ns i).code k (node_at ns l).code)

abbrev pub leads : List Node → ℕ → ℕ → ℕ → Option ℕ → Option ℕ
leads ns n i k None = None
leads ns n i k (Some l) = cond (counts ns n i k l) (Some l) None

-- the node below node i on the side of code k
abbrev pub below : List Node → ℕ → ℕ → ℕ → Option ℕ
below ns n i k = leads ns n i k (cond (nat_lt k (node_at ns i).code) (node_at ns i).low (node_at ns i).high)

abbrev pub onward : (ℕ → ℕ) → ℕ → Option ℕ → ℕ
onward next i None = i
onward next i (Some l) = next l

-- the node at which the search for code k from node i stops, within f steps
unfoldable pub stop : List Node → ℕ → ℕ → ℕ → ℕ → ℕ
stop ns n k zero i = i
stop ns n k (suc f) i = cond ((node_at ns i).code == k) i (onward (stop ns n k f) i (below ns n i k))

-- one of the first n nodes has the code, and this mark
abbrev pub Has : List Node → ℕ → ℕ → ℕ → Type 0
Has ns n k m = (i : ℕ) × (i < n) × ((node_at ns i).code ≡ k) × (m ≡ (node_at ns i).mark)

-- the search for a code ends at this node, which has another code, or at none where there is none
abbrev pub Ends : List Node → ℕ → ℕ → Option ℕ → Type 0
Ends ns n k None = n ≡ 0
Ends ns n k (Some i) = (i < n) × (i ≡ stop ns n k n 0) × ((node_at ns i).code ≢ k)
