-- The same nodes with one count of entries and with another: which walks reach the same node.
use Rattle.std.proofs.Common.{◌≡◌, ℕ, zero, suc, ◌+◌, ◌<◌, ◌≤◌, List, Some, None, Option, sym, refl, ap, ◌∙◌, inl, inr, arith}
use Rattle.registers.proofs.Walking.{Upward, under, below_from, onwards, held, ends, goes, step, stop_held, stop_ends, stop_goes, stop_later, stop_more}
use Rattle.registers.specs.Nodes.{node_at, below, stop}
use Rattle.registers.specs.declared.tree.node.Node.{Node}
use Rattle.std.proofs.lemmas.Bool.{cases_eq}

-- every entry is found by its own code
abbrev pub Found : List Node → ℕ → Type 0
Found ns n = (j : ℕ) → j < n → stop ns n (node_at ns j).code n 0 ≡ j

-- with more entries, a link that counted still counts
more_below : (ns : List Node) (n m i k l : ℕ) → n ≤ m → below ns n i k ≡ Some l → below ns m i k ≡ Some l
more_below ns n m i k l h e =
    let u = under ns n i k l e in
    let w : l < m = omega (arith, u.within) in
    below_from ns m i k l (record { link = u.link; within = w; names = u.names; side = u.side })

-- with fewer entries, a link to one that is left still counts
fewer_below : (ns : List Node) (n m i k l : ℕ) → l < n → below ns m i k ≡ Some l → below ns n i k ≡ Some l
fewer_below ns n m i k l h e =
    let u = under ns m i k l e in
    below_from ns n i k l (record { link = u.link; within = h; names = u.names; side = u.side })

-- with fewer entries, nothing is below where nothing was
fewer_none : (ns : List Node) (n m i k : ℕ) → n ≤ m → below ns m i k ≡ None → (o : Option ℕ) → below ns n i k ≡ o → o ≡ None
fewer_none ns n m i k h e None q = refl
fewer_none ns n m i k h e (Some l) q = let p = more_below ns n m i k l h q in cc

-- a walk that ends at an entry that is left meets only such entries, since it does not turn back
shorter : (ns : List Node) (n m k : ℕ) → n ≤ m → Upward ns m → (f i : ℕ) → stop ns m k f i < n → stop ns n k f i ≡ stop ns m k f i
unfolding stop
shorter ns n m k h up zero i w = refl
shorter ns n m k h up (suc f) i w =
    elim (step ns m k i) [
      | held e ↦ stop_held ns n k (suc f) i e ∙ sym (stop_held ns m k (suc f) i e)
      | ends ne e ↦ stop_ends ns n k (suc f) i ne (fewer_none ns n m i k h e (below ns n i k) refl) ∙ sym (stop_ends ns m k (suc f) i ne e)
      | goes ne l e ↦ (let g = stop_goes ns m k f i l ne e in
          let w' : stop ns m k f l < n = rw g at w in
          let later = stop_later ns m k up f l in
          let lw : l < n = omega arith in
          stop_goes ns n k f i l ne (fewer_below ns n m i k l lw e) ∙ shorter ns n m k h up f l w' ∙ sym g)
    ]

-- with fewer entries, those that are left are found
pub found_fewer : (ns : List Node) (n m : ℕ) → n ≤ m → Upward ns m → Found ns m → Found ns n
found_fewer ns n m h up found j w =
    let k = (node_at ns j).code in
    let up' : Upward ns n = λ l v. up l (omega arith) in
    let e : stop ns m k m 0 ≡ j = found j (omega arith) in
    stop_more ns n k up' n m 0 (omega arith) (omega arith) (omega arith) ∙ shorter ns n m k h up m 0 (omega arith) ∙ e

-- with more entries, a walk that finds its code is the same
longer : (ns : List Node) (n m k : ℕ) → n ≤ m → (f i : ℕ) → (node_at ns (stop ns n k f i)).code ≡ k → stop ns m k f i ≡ stop ns n k f i
unfolding stop
longer ns n m k h zero i w = refl
longer ns n m k h (suc f) i w =
    elim (step ns n k i) [
      | held e ↦ stop_held ns m k (suc f) i e ∙ sym (stop_held ns n k (suc f) i e)
      | ends ne e ↦ absurd (ne (rw (stop_ends ns n k (suc f) i ne e) at w))
      | goes ne l e ↦ (let g = stop_goes ns n k f i l ne e in
          stop_goes ns m k f i l ne (more_below ns n m i k l h e) ∙ longer ns n m k h f l (rw g at w) ∙ sym g)
    ]

-- the walk for the new code goes on from the node where it stopped to the new node
reached : (ns : List Node) (n m k : ℕ) → n ≤ m → Upward ns n → (node_at ns n).code ≡ k → (f i : ℕ) → i < n → n ≤ f + i → ((node_at ns (stop ns n k f i)).code ≡ k → ⊥) → below ns m (stop ns n k f i) k ≡ Some n → stop ns m k (suc f) i ≡ n
reached ns n m k h up new zero i w few ne e = absurd (omega arith)
reached ns n m k h up new (suc f) i w few other e =
    elim (step ns n k i) [
      | held q ↦ absurd (other (rw (stop_held ns n k (suc f) i q) q))
      | ends ne q ↦ stop_goes ns m k (suc f) i n ne (rw (stop_ends ns n k (suc f) i ne q) at e) ∙ stop_held ns m k (suc f) n new
      | goes ne l q ↦ (let g = stop_goes ns n k f i l ne q in
          let later = onwards ns n i k l up q in
          stop_goes ns m k (suc f) i l ne (more_below ns n m i k l h q) ∙ reached ns n m k h up new f l (under ns n i k l q).within (omega arith) (rw g at other) (rw g at e))
    ]

-- with one entry more, linked to where its walk stopped, all are found
pub found_more : (ns : List Node) (n a : ℕ) → Upward ns (n + 1) → Found ns n → (0 < n → a < n) → a ≡ stop ns n (node_at ns n).code n 0 → (0 < n → (node_at ns a).code ≡ (node_at ns n).code → ⊥) → (0 < n → below ns (n + 1) a (node_at ns n).code ≡ Some n) → Found ns (n + 1)
found_more ns n a up found aw ae other e j w =
    let up' : Upward ns n = λ l v. up l (omega arith) in
    elim (cases_eq j n) [
      | inr ne ↦ (
          let k = (node_at ns j).code in
          let lt : j < n = omega arith in
          let q : stop ns n k (n + 1) 0 ≡ j = stop_more ns n k up' (n + 1) n 0 (omega arith) (omega arith) (omega arith) ∙ found j lt in
          longer ns n (n + 1) k (omega arith) (n + 1) 0 (ap (λ i. (node_at ns i).code) q) ∙ q)
      | inl q ↦ elim (cases_eq n 0) [
        | inl z ↦ (let y : 0 ≡ j = omega arith in stop_held ns (n + 1) (node_at ns j).code (n + 1) 0 (ap (λ i. (node_at ns i).code) y) ∙ y)
        | inr nz ↦ (
            let k = (node_at ns j).code in
            let p : 0 < n = omega arith in
            let new : (node_at ns n).code ≡ k = ap (λ i. (node_at ns i).code) (sym q) in
            let at : a ≡ stop ns n k n 0 = rw new at ae in
            stop_more ns (n + 1) k up (n + 1) (suc n) 0 (omega arith) (omega arith) (omega arith)
            ∙ reached ns n (n + 1) k (omega arith) up' new n 0 p (omega arith) (λ y. other p (ap (λ i. (node_at ns i).code) at ∙ y ∙ sym new)) (rw (new, at) at (e p))
            ∙ sym q)
      ]
    ]
