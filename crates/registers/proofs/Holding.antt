-- The entries of a tree, by its nodes.
use Rattle.std.proofs.Common.{◌≡◌, ℕ, ◌+◌, ◌<◌, ◌≤◌, List, [], ◌∷◌, ◌++◌, length, get_or, take, Some, None, Option, sym, ap, ◌∙◌, arith}
use Rattle.registers.specs.Entries.{Entry, code_at, NoCodeTwice, marked}
use Rattle.registers.specs.Nodes.{entry_of, tree_entries, node_at, stop, Has, Ends}
use Rattle.registers.specs.declared.tree.node.Node.{Node}
use Rattle.registers.proofs.Entries.{marked_none, marked_at}
use Rattle.registers.proofs.Reaching.{Found}
use Rattle.std.proofs.lemmas.List.{length-map, length-take-le, get_or-map, get_or-take, map_more}

module _ (ns : List Node) (n : ℕ) (room : n ≤ length ns) where
  -- there are as many entries as the count says
  pub tree_length : length (tree_entries ns n) ≡ n
  tree_length = length-map (take n ns) entry_of ∙ length-take-le n ns room

  -- each entry is made of its node
  entry_at : (i : ℕ) → i < n → get_or (tree_entries ns n) i (record { code = 0; mark = 0 }) ≡ entry_of (node_at ns i)
  entry_at i w =
      let v : i < length (take n ns) = rw length-take-le w in
      get_or-map entry_of (take n ns) i _ _ v ∙ ap entry_of (get_or-take n ns i _ w)

  code_of : (i : ℕ) → i < n → code_at (tree_entries ns n) i ≡ (node_at ns i).code
  code_of i w = ap (λ (e : Entry). e.code) (entry_at i w)

  -- entries with equal codes are found at one place
  pub tree_apart : Found ns n → NoCodeTwice (tree_entries ns n)
  tree_apart found i j v w e =
      let v' : i < n = rw tree_length at v in
      let w' : j < n = rw tree_length at w in
      let q : (node_at ns i).code ≡ (node_at ns j).code = sym (code_of i v') ∙ e ∙ code_of j w' in
      sym (found i v') ∙ ap (λ k. stop ns n k n 0) q ∙ found j w'

  -- the entry with a code gives its mark, since no other has it
  pub tree_held : Found ns n → (k m : ℕ) → Has ns n k m → marked k (tree_entries ns n) ≡ Some m
  tree_held found k m h =
      let v : h.0 < length (tree_entries ns n) = rw tree_length h.1 in
      marked_at k (tree_entries ns n) h.0 (tree_apart found) v (code_of h.0 h.1 ∙ h.2) ∙ ap (λ (y : Entry). Some y.mark) (entry_at h.0 h.1) ∙ ap (λ i. Some i) (sym h.3)

  -- where the search ends at another code no entry has it, since the search for an entry's code ends there
  pub tree_none : Found ns n → (k : ℕ) (o : Option ℕ) → Ends ns n k o → marked k (tree_entries ns n) ≡ None
  tree_none found k None e = marked_none k (tree_entries ns n) (λ j v _. let w : j < n = rw tree_length at v in omega arith)
  tree_none found k (Some i) e =
      marked_none k (tree_entries ns n) (λ j v q.
      let w : j < n = rw tree_length at v in
      let same : (node_at ns j).code ≡ k = sym (code_of j w) ∙ q in
      let p : j ≡ i = sym (found j w) ∙ ap (λ h. stop ns n h n 0) same ∙ sym e.1 in
      e.2 (sym (ap (λ h. (node_at ns h).code) p) ∙ same))

-- the last entry is the last node
pub last_entry : (ns : List Node) (n i : ℕ) → n ≡ i + 1 → n ≤ length ns → tree_entries ns n ≡ tree_entries ns i ++ entry_of (node_at ns i) ∷ []
last_entry ns n i e room = ap (tree_entries ns) e ∙ map_more entry_of ns i _ (omega arith)
