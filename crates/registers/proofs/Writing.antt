-- Writes to the nodes that change no walk: a node behind the entries, and a link to it.
use Rattle.std.proofs.Common.{◌≡◌, ℕ, zero, suc, ◌<◌, ◌≤◌, Bool, true, false, cond, ltb, ◌⊎◌, List, map, length, get_or, take, set, Some, None, Option, sym, refl, ap, ◌∙◌, inl, inr, arith}
use Rattle.registers.proofs.Reaching.{Found}
use Rattle.registers.proofs.Walking.{link_of, under, below_from, held, ends, goes, step, stop_held, stop_ends, stop_goes}
use Rattle.registers.specs.Entries.{Entry}
use Rattle.registers.specs.Nodes.{entry_of, tree_entries, node_at, linked, below, stop, Has, Ends}
use Rattle.registers.specs.declared.tree.node.Node.{Node}
use Rattle.std.proofs.lemmas.List.{get_or-set_same, get_or-set_other, get_or-map, get_or-take, length-take-le, map-set, set-get_or, take-map}
use Rattle.std.proofs.lemmas.Bool.{true≢false, false≢true, cases_eq}
use Rattle.std.proofs.lemmas.Bool.Decides.{nat_tests}

-- codes and the names of the nodes above are the same below n
abbrev pub Alike : List Node → List Node → ℕ → Type 0
Alike ms ns n = (i : ℕ) → i < n → ((node_at ms i).code ≡ (node_at ns i).code) × ((node_at ms i).above ≡ (node_at ns i).above)

-- each walk goes the same way
abbrev pub SameWays : List Node → List Node → ℕ → Type 0
SameWays ms ns n = (i k : ℕ) → i < n → below ms n i k ≡ below ns n i k

-- a link that both have counts in both
keeps : (ms ns : List Node) (n i k l : ℕ) → Alike ms ns n → i < n → below ms n i k ≡ Some l → (l < n → link_of ms i k ≡ Some l → link_of ns i k ≡ Some l) → below ns n i k ≡ Some l
keeps ms ns n i k l alike w e h =
    let u = under ms n i k l e in
    below_from ns n i k l (record {
      link = h u.within u.link;
      within = u.within;
      names = sym (alike l u.within).1 ∙ u.names;
      side = rw ((alike i w).0, (alike l u.within).0) at u.side;
    })

-- options that hold the same numbers are the same
same_option : (o p : Option ℕ) → ((l : ℕ) → o ≡ Some l → p ≡ Some l) → ((l : ℕ) → p ≡ Some l → o ≡ Some l) → o ≡ p
same_option None None f g = refl
same_option None (Some l) f g = g l refl
same_option (Some l) p f g = sym (f l refl)

-- walks that go the same way stop at the same node
pub stop_same : (ms ns : List Node) (n k : ℕ) → Alike ms ns n → SameWays ms ns n → (f i : ℕ) → i < n → stop ms n k f i ≡ stop ns n k f i
unfolding stop
stop_same ms ns n k alike same zero i w = refl
stop_same ms ns n k alike same (suc f) i w =
    let q = (alike i w).0 in
    elim (step ns n k i) [
      | held e ↦ stop_held ms n k (suc f) i (q ∙ e) ∙ sym (stop_held ns n k (suc f) i e)
      | ends ne e ↦ stop_ends ms n k (suc f) i (λ h. ne (sym q ∙ h)) (same i k w ∙ e) ∙ sym (stop_ends ns n k (suc f) i ne e)
      | goes ne l e ↦ stop_goes ms n k f i l (λ h. ne (sym q ∙ h)) (same i k w ∙ e) ∙ stop_same ms ns n k alike same f l (under ns n i k l e).within ∙ sym (stop_goes ns n k f i l ne e)
    ]

-- so the entries are found as before
pub found_same : (ms ns : List Node) (n : ℕ) → Alike ms ns n → SameWays ms ns n → Found ns n → Found ms n
found_same ms ns n alike same found j w =
    let p : 0 < n = omega arith in
    ap (λ k. stop ms n k n 0) (alike j w).0 ∙ stop_same ms ns n (node_at ns j).code alike same n 0 p ∙ found j w

-- two tests answer the same or not
cases_same : (x y : Bool) → (x ≡ y) ⊎ (x ≡ y → ⊥)
cases_same true true = inl refl
cases_same true false = inr true≢false
cases_same false true = inr false≢true
cases_same false false = inl refl

-- where the first n nodes are the same, so is each walk among them
module _ (ms ns : List Node) (n : ℕ) (same : (i : ℕ) → i < n → node_at ms i ≡ node_at ns i) where
  pub same_alike : Alike ms ns n
  same_alike i w = (ap (λ (y : Node). y.code) (same i w), ap (λ (y : Node). y.above) (same i w))

  pub same_ways : SameWays ms ns n
  same_ways i k w =
      let link : link_of ms i k ≡ link_of ns i k = ap (λ (y : Node). cond (ltb k y.code) y.low y.high) (same i w) in
      same_option (below ms n i k) (below ns n i k)
      (λ l e. keeps ms ns n i k l same_alike w e (λ _ q. sym link ∙ q))
      (λ l e. keeps ns ms n i k l (λ j v. (sym (same_alike j v).0, sym (same_alike j v).1)) w e (λ _ q. link ∙ q))

-- a node written behind the entries leaves them the same
pub leaf_same : (ns : List Node) (n : ℕ) (x : Node) (i : ℕ) → i < n → node_at (set ns n x) i ≡ node_at ns i
leaf_same ns n x i w = get_or-set_other ns n i x _ (λ e. omega arith)

-- a search among the entries alone ends where one among all the nodes does
module _ (ns : List Node) (n k : ℕ) (room : n ≤ length ns) where
  front_same : (i : ℕ) → i < n → node_at (take n ns) i ≡ node_at ns i
  front_same i w = get_or-take n ns i _ w

  pub has_all : (m : ℕ) → Has (take n ns) (length (take n ns)) k m → Has ns n k m
  has_all m h =
      let w : h.0 < n = omega (arith, length-take-le n ns room, h.1) in
      (h.0, w, sym (ap (λ (y : Node). y.code) (front_same h.0 w)) ∙ h.2, h.3 ∙ ap (λ (y : Node). y.mark) (front_same h.0 w))

  pub ends_all : (o : Option ℕ) → Ends (take n ns) (length (take n ns)) k o → Ends ns n k o
  ends_all None e = sym (length-take-le n ns room) ∙ e
  ends_all (Some i) e =
      let long = length-take-le n ns room in
      let w : i < n = omega (arith, e.0) in
      let p : 0 < n = omega arith in
      let at : i ≡ stop (take n ns) n k n 0 = rw long at e.1 in
      (w, at ∙ stop_same (take n ns) ns n k (same_alike (take n ns) ns n front_same) (same_ways (take n ns) ns n front_same) n 0 p, λ q. e.2 (ap (λ (y : Node). y.code) (front_same i w) ∙ q))

-- a link changes neither the code nor the node above
linked_same : (x : Node) (k to : ℕ) → ((linked x k to).code ≡ x.code) × ((linked x k to).above ≡ x.above)
linked_same x k to = (grind (arith, nat_tests), grind (arith, nat_tests))

-- nor the entry
linked_entry : (x : Node) (k to : ℕ) → entry_of (linked x k to) ≡ entry_of x
linked_entry x k to = grind (arith, nat_tests)

-- on the code's side, it is the link
linked_here : (x : Node) (k to h : ℕ) → ltb h x.code ≡ ltb k x.code → cond (ltb h (linked x k to).code) (linked x k to).low (linked x k to).high ≡ Some to
linked_here x k to h e = grind (arith, nat_tests)

-- on the other side, the link is as it was
linked_there : (x : Node) (k to h : ℕ) → (ltb h x.code ≡ ltb k x.code → ⊥) → cond (ltb h (linked x k to).code) (linked x k to).low (linked x k to).high ≡ cond (ltb h x.code) x.low x.high
linked_there x k to h ne = grind (arith, nat_tests)

-- a link to a node behind the entries, where nothing was below on its side, changes no walk
module _ (ns : List Node) (n a k : ℕ) (w : a < n) (room : n ≤ length ns) where
  abbrev ms : List Node
  ms = set ns a (linked (node_at ns a) k n)

  -- the node with the link, and the others
  link_at : node_at ms a ≡ linked (node_at ns a) k n
  link_at = get_or-set_same ns a (linked (node_at ns a) k n) _ (omega arith)

  link_other : (i : ℕ) → (i ≡ a → ⊥) → node_at ms i ≡ node_at ns i
  link_other i ne = get_or-set_other ns a i (linked (node_at ns a) k n) _ ne

  pub link_alike : Alike ms ns n
  link_alike i v =
      elim (cases_eq i a) [
        | inl e ↦ rw e (rw link_at (linked_same (node_at ns a) k n))
        | inr ne ↦ (ap (λ (y : Node). y.code) (link_other i ne), ap (λ (y : Node). y.above) (link_other i ne))
      ]

  -- the link on the side of the code
  pub link_here : (h : ℕ) → ltb h (node_at ns a).code ≡ ltb k (node_at ns a).code → link_of ms a h ≡ Some n
  link_here h e = ap (λ (y : Node). cond (ltb h y.code) y.low y.high) link_at ∙ linked_here (node_at ns a) k n h e

  -- the link on the other side
  link_there : (h : ℕ) → (ltb h (node_at ns a).code ≡ ltb k (node_at ns a).code → ⊥) → link_of ms a h ≡ link_of ns a h
  link_there h ne = ap (λ (y : Node). cond (ltb h y.code) y.low y.high) link_at ∙ linked_there (node_at ns a) k n h ne

  -- what is below depends only on the side
  one_side : (h l : ℕ) → ltb h (node_at ns a).code ≡ ltb k (node_at ns a).code → below ns n a h ≡ Some l → below ns n a k ≡ Some l
  one_side h l e q =
      let u = under ns n a h l q in
      below_from ns n a k l (record { link = rw e at u.link; within = u.within; names = u.names; side = rw e at u.side })

  -- a link to an entry was there before, since the new one leads behind the entries
  link_forth : (h l : ℕ) → l < n → link_of ms a h ≡ Some l → link_of ns a h ≡ Some l
  link_forth h l v q =
      elim (cases_same (ltb h (node_at ns a).code) (ltb k (node_at ns a).code)) [
        | inl e ↦ let p = link_here h e in let z : n ≡ l = cc in absurd (omega arith)
        | inr ne ↦ sym (link_there h ne) ∙ q
      ]

  -- a link that counted is still there, since it stood on the other side
  link_back : (h l : ℕ) → below ns n a k ≡ None → below ns n a h ≡ Some l → link_of ns a h ≡ Some l → link_of ms a h ≡ Some l
  link_back h l o b q =
      elim (cases_same (ltb h (node_at ns a).code) (ltb k (node_at ns a).code)) [
        | inl e ↦ let p = one_side h l e b in cc
        | inr ne ↦ link_there h ne ∙ q
      ]

  pub link_ways : below ns n a k ≡ None → SameWays ms ns n
  link_ways o i h v =
      let back : Alike ns ms n = λ j u. (sym (link_alike j u).0, sym (link_alike j u).1) in
      elim (cases_eq i a) [
        | inl e ↦ rw e (same_option (below ms n a h) (below ns n a h)
            (λ l q. keeps ms ns n a h l link_alike w q (λ u r. link_forth h l u r))
            (λ l q. keeps ns ms n a h l back w q (λ _ r. link_back h l o q r)))
        | inr ne ↦ (
            let link : link_of ms i h ≡ link_of ns i h = ap (λ (y : Node). cond (ltb h y.code) y.low y.high) (link_other i ne) in
            same_option (below ms n i h) (below ns n i h)
            (λ l q. keeps ms ns n i h l link_alike v q (λ _ r. sym link ∙ r))
            (λ l q. keeps ns ms n i h l back v q (λ _ r. link ∙ r)))
      ]

  -- the entries are the same
  pub link_entries : tree_entries ms n ≡ tree_entries ns n
  link_entries =
      let d : Entry = record { code = 0; mark = 0 } in
      let at : entry_of (linked (node_at ns a) k n) ≡ get_or (map entry_of ns) a d = linked_entry (node_at ns a) k n ∙ sym (get_or-map entry_of ns a _ d (omega arith)) in
      let all : map entry_of ms ≡ map entry_of ns = map-set entry_of ns a (linked (node_at ns a) k n) ∙ ap (set (map entry_of ns) a) at ∙ set-get_or (map entry_of ns) a d in
      sym (take-map entry_of n ms) ∙ ap (take n) all ∙ take-map entry_of n ns
