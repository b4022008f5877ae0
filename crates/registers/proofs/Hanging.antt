-- What the tree is after one entry more.
use Rattle.std.proofs.Common.{◌≡◌, ℕ, ◌+◌, ◌<◌, ◌≤◌, true, List, [], ◌∷◌, ◌++◌, map, length, drop, set, Some, None, Option, unwrap_or, sym, refl, ap, ◌∙◌, inl, inr, arith}
use Rattle.registers.proofs.Reaching.{Found, found_more}
use Rattle.registers.proofs.Walking.{Upward, below_from, stop_none, stop_last}
use Rattle.registers.proofs.Writing.{Alike, SameWays, stop_same, found_same, leaf_same, same_alike, same_ways, link_alike, link_here, link_ways, link_entries}
use Rattle.registers.specs.Lent.{most, used}
use Rattle.registers.specs.Nodes.{entry_of, tree_entries, node_at, leaf, linked, beside, below, stop, Ends}
use Rattle.registers.specs.declared.tree.node.Node.{Node}
use Rattle.std.proofs.lemmas.List.{get_or-set_same, get_or-set_other, map_more, take-set, drop-set-lt, length-set}
use Rattle.std.proofs.lemmas.Bool.{cases_eq}
use Rattle.std.proofs.lemmas.Bool.Decides.{nat_tests}

-- another code stands on its own side
apart_side : (c k : ℕ) → (c ≡ k → ⊥) → beside c k k ≡ true
apart_side c k ne = grind (arith, nat_tests)

-- what one entry more comes to
pub record Grown (ns : List Node) (n k m : ℕ) (ms : List Node) : Type 0 where
  pub long : length ms ≡ length ns
  pub upward : Upward ms (n + 1)
  pub found : Found ms (n + 1)
  pub list : tree_entries ms (n + 1) ≡ tree_entries ns n ++ record { code = k; mark = m } ∷ []
  pub beyond : drop most ms ≡ drop most ns

-- the names of the nodes above, with one entry more
grown_upward : (ms ns : List Node) (n k m a : ℕ) → Upward ns n → Alike ms ns n → node_at ms n ≡ leaf k m a → a ≤ n → Upward ms (n + 1)
grown_upward ms ns n k m a up alike new h l w =
    elim (cases_eq l n) [
      | inl e ↦ (let q : (node_at ms l).above ≡ a = ap (λ i. (node_at ms i).above) e ∙ ap (λ (y : Node). y.above) new in omega arith)
      | inr ne ↦ (let v : l < n = omega arith in omega (arith, up l v, (alike l v).1))
    ]

-- the entries, with one more
grown_list : (ms ns : List Node) (n k m a : ℕ) → n < length ms → tree_entries ms n ≡ tree_entries ns n → node_at ms n ≡ leaf k m a → tree_entries ms (n + 1) ≡ tree_entries ns n ++ record { code = k; mark = m } ∷ []
grown_list ms ns n k m a room same new =
    map_more entry_of ms n _ room ∙ ap (λ es. es ++ entry_of (node_at ms n) ∷ []) same ∙ ap (λ (y : Node). tree_entries ns n ++ entry_of y ∷ []) new

module _ (ns : List Node) (n k m a : ℕ) (room : n < length ns) (few : n < most) (up : Upward ns n) (found : Found ns n) where
  abbrev ls : List Node
  ls = set ns n (leaf k m a)

  -- the new node is where it was written
  leaf_at : node_at ls n ≡ leaf k m a
  leaf_at = get_or-set_same ns n (leaf k m a) _ room

  -- it is not among the entries yet
  leaf_entries : tree_entries ls n ≡ tree_entries ns n
  leaf_entries = ap (map entry_of) (take-set ns n (leaf k m a))

  -- a node behind the entries leaves the tree a tree
  pub leaf_upward : Upward ls n
  leaf_upward l w = omega (arith, up l w, (same_alike ls ns n (leaf_same ns n (leaf k m a)) l w).1)

  pub leaf_found : Found ls n
  leaf_found = found_same ls ns n (same_alike ls ns n (leaf_same ns n (leaf k m a))) (same_ways ls ns n (leaf_same ns n (leaf k m a))) found

  -- the first entry has no node above it
  grown_first : n ≡ 0 → a ≡ 0 → Grown ns n k m ls
  grown_first z y =
      let upward : Upward ls (n + 1) = grown_upward ls ns n k m a up (same_alike ls ns n (leaf_same ns n (leaf k m a))) leaf_at (omega arith) in
      let room' : n < length ls = rw length-set room in
      record {
        long = length-set ns n (leaf k m a);
        upward = upward;
        found = found_more ls n a upward leaf_found (λ p. absurd (omega arith)) (y ∙ sym (stop_none ls n (node_at ls n).code z)) (λ p. absurd (omega arith)) (λ p. absurd (omega arith));
        list = grown_list ls ns n k m a room' leaf_entries leaf_at;
        beyond = drop-set-lt most ns n (leaf k m a) few;
      }

  -- the others hang below the node where the walk for their code stopped
  grown_linked : a < n → a ≡ stop ns n k n 0 → ((node_at ns a).code ≡ k → ⊥) → Grown ns n k m (set ls a (linked (node_at ls a) k n))
  grown_linked w at other =
      let ks : List Node = set ls a (linked (node_at ls a) k n) in
      let x = leaf k m a in
      let p : 0 < n = omega arith in
      let room' : n < length ls = rw length-set room in
      let room'' : n < length ks = rw length-set room' in
      let le : n ≤ length ls = omega arith in
      let same : (node_at ls a).code ≡ (node_at ns a).code = (same_alike ls ns n (leaf_same ns n x) a w).0 in
      let other' : (node_at ls a).code ≡ k → ⊥ = λ e. other (sym same ∙ e) in
      let at' : a ≡ stop ls n k n 0 = at ∙ sym (stop_same ls ns n k (same_alike ls ns n (leaf_same ns n x)) (same_ways ls ns n (leaf_same ns n x)) n 0 p) in
      let none : below ls n a k ≡ None = elim (stop_last ls n k leaf_upward n 0 p (omega arith)) [
        | inl e ↦ absurd (other' (ap (λ i. (node_at ls i).code) at' ∙ e))
        | inr e ↦ ap (λ i. below ls n i k) at' ∙ e
      ] in
      let alike : Alike ks ls n = link_alike ls n a k w le in
      let ways : SameWays ks ls n = link_ways ls n a k w le none in
      let behind : node_at ks n ≡ leaf k m a = get_or-set_other ls a n (linked (node_at ls a) k n) _ (λ e. omega arith) ∙ leaf_at in
      let code : (node_at ks n).code ≡ k = ap (λ (y : Node). y.code) behind in
      let upward : Upward ks (n + 1) = grown_upward ks ls n k m a leaf_upward alike behind (omega arith) in
      let here : (node_at ks a).code ≡ (node_at ls a).code = (alike a w).0 in
      let at'' : a ≡ stop ks n k n 0 = at' ∙ sym (stop_same ks ls n k alike ways n 0 p) in
      let down : below ks (n + 1) a k ≡ Some n = below_from ks (n + 1) a k n (record {
        link = link_here ls n a k w le k refl;
        within = omega arith;
        names = ap (λ (y : Node). y.above) behind;
        side = rw (here, code) (apart_side (node_at ls a).code k other');
      }) in
      record {
        long = length-set ls a (linked (node_at ls a) k n) ∙ length-set ns n x;
        upward = upward;
        found = found_more ks n a upward (found_same ks ls n alike ways leaf_found) (λ _. w) (rw code at'') (λ _ e. other' (sym here ∙ e ∙ code)) (λ _. rw code down);
        list = grown_list ks ns n k m a room'' (link_entries ls n a k w le ∙ leaf_entries) behind;
        beyond = drop-set-lt most ls a (linked (node_at ls a) k n) (omega arith) ∙ drop-set-lt most ns n x few;
      }

-- the nodes after one entry more: a leaf behind the others and, but for the first, a link to it
abbrev pub joined : List Node → ℕ → ℕ → Option ℕ → List Node
joined ls k n None = ls
joined ls k n (Some a) = set ls a (linked (node_at ls a) k n)

abbrev pub hung : List Node → ℕ → ℕ → ℕ → Option ℕ → List Node
hung ns n k m o = joined (set ns n (leaf k m (unwrap_or o 0))) k n o

-- both ways, it is one entry more
pub grown : (ns : List Node) (n k m : ℕ) (o : Option ℕ) → n < used (length ns) → Upward ns n → Found ns n → Ends ns n k o → Grown ns n k m (hung ns n k m o)
grown ns n k m None h up found e = grown_first ns n k m 0 (omega arith) (omega arith) up found e refl
grown ns n k m (Some a) h up found e = grown_linked ns n k m a (omega arith) (omega arith) up found e.0 e.1 e.2
