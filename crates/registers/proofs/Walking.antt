-- The walk down the tree: each step leads to a node entered later, so it ends, and more steps change nothing.
use Rattle.std.proofs.Common.{◌≡◌, ℕ, zero, suc, ◌+◌, ◌<◌, ◌≤◌, true, cond, ltb, ◌⊎◌, List, Some, None, Option, sym, refl, ap, ◌∙◌, inl, inr, arith}
use Rattle.registers.specs.Nodes.{node_at, beside, counts, leads, below, onward, stop}
use Rattle.registers.specs.declared.tree.node.Node.{Node}
use Rattle.std.proofs.lemmas.Bool.{cases_eq, eq-eqb, ne_eqb}
use Rattle.std.proofs.lemmas.Bool.Decides.{nat_tests}

-- no node names one that was entered later
abbrev pub Upward : List Node → ℕ → Type 0
Upward ns n = (l : ℕ) → l < n → (node_at ns l).above ≤ l

-- the link of node i on the side of code k
abbrev pub link_of : List Node → ℕ → ℕ → Option ℕ
link_of ns i k = cond (ltb k (node_at ns i).code) (node_at ns i).low (node_at ns i).high

-- what it means that node l is below node i
pub record Under (ns : List Node) (n i k l : ℕ) : Type 0 where
  pub link : link_of ns i k ≡ Some l
  pub within : l < n
  pub names : (node_at ns l).above ≡ i
  pub side : beside (node_at ns i).code k (node_at ns l).code ≡ true

-- a link that leads somewhere leads where it says, and counts
leads_some : (ns : List Node) (n i k : ℕ) (o : Option ℕ) (l : ℕ) → leads ns n i k o ≡ Some l → (o ≡ Some l) × (counts ns n i k l ≡ true)
leads_some ns n i k None l e = cc
leads_some ns n i k (Some m) l e = (grind (arith, nat_tests), grind (arith, nat_tests))

-- the parts of the test, taken apart and put together
pub under : (ns : List Node) (n i k l : ℕ) → below ns n i k ≡ Some l → Under ns n i k l
under ns n i k l e =
    let p = leads_some ns n i k (link_of ns i k) l e in
    record { link = p.0; within = grind (arith, nat_tests); names = grind (arith, nat_tests); side = grind (arith, nat_tests) }

pub below_from : (ns : List Node) (n i k l : ℕ) → Under ns n i k l → below ns n i k ≡ Some l
below_from ns n i k l u =
    let t : counts ns n i k l ≡ true = grind (arith, nat_tests) in
    ap (leads ns n i k) u.link ∙ rw t

-- a node is not below itself, since the sides are strict
strict : (c k : ℕ) → beside c k c ≡ true → ⊥
strict c k e = grind (arith, nat_tests)

-- a step leads to a node entered later
pub onwards : (ns : List Node) (n i k l : ℕ) → Upward ns n → below ns n i k ≡ Some l → i < l
onwards ns n i k l up e =
    let u = under ns n i k l e in
    elim (cases_eq i l) [
      | inl q ↦ absurd (strict (node_at ns i).code k (rw (sym q) at u.side))
      | inr ne ↦ omega (arith, up l u.within, u.names)
    ]

-- what the walk does at node i
pub data Step (ns : List Node) (n k i : ℕ) : Type 0 where
  held : (node_at ns i).code ≡ k → Step ns n k i
  ends : ((node_at ns i).code ≡ k → ⊥) → below ns n i k ≡ None → Step ns n k i
  goes : ((node_at ns i).code ≡ k → ⊥) → (l : ℕ) → below ns n i k ≡ Some l → Step ns n k i

-- by whether a node is below
step_by : (ns : List Node) (n k i : ℕ) → ((node_at ns i).code ≡ k → ⊥) → (o : Option ℕ) → below ns n i k ≡ o → Step ns n k i
step_by ns n k i ne None e = ends ne e
step_by ns n k i ne (Some l) e = goes ne l e

-- each node is one of the three
pub step : (ns : List Node) (n k i : ℕ) → Step ns n k i
step ns n k i =
    elim (cases_eq (node_at ns i).code k) [
      | inl e ↦ held e
      | inr ne ↦ step_by ns n k i ne (below ns n i k) refl
    ]

-- in each of the three, where the walk stops
pub stop_held : (ns : List Node) (n k f i : ℕ) → (node_at ns i).code ≡ k → stop ns n k f i ≡ i
unfolding stop
stop_held ns n k zero i e = refl
stop_held ns n k (suc f) i e = rw (eq-eqb (node_at ns i).code k e)

pub stop_ends : (ns : List Node) (n k f i : ℕ) → ((node_at ns i).code ≡ k → ⊥) → below ns n i k ≡ None → stop ns n k f i ≡ i
unfolding stop
stop_ends ns n k zero i ne e = refl
stop_ends ns n k (suc f) i ne e = rw (ne_eqb (node_at ns i).code k ne) (ap (onward (stop ns n k f) i) e)

pub stop_goes : (ns : List Node) (n k f i l : ℕ) → ((node_at ns i).code ≡ k → ⊥) → below ns n i k ≡ Some l → stop ns n k (suc f) i ≡ stop ns n k f l
unfolding stop
stop_goes ns n k f i l ne e = rw (ne_eqb (node_at ns i).code k ne) (ap (onward (stop ns n k f) i) e)

-- without entries, the walk stops where it starts
pub stop_none : (ns : List Node) (n k : ℕ) → n ≡ 0 → stop ns n k n 0 ≡ 0
unfolding stop
stop_none ns zero k e = refl
stop_none ns (suc n) k e = absurd (omega arith)

-- the walk does not turn back
pub stop_later : (ns : List Node) (n k : ℕ) → Upward ns n → (f i : ℕ) → i ≤ stop ns n k f i
unfolding stop
stop_later ns n k up zero i = omega arith
stop_later ns n k up (suc f) i =
    elim (step ns n k i) [
      | held e ↦ omega (arith, stop_held ns n k (suc f) i e)
      | ends ne e ↦ omega (arith, stop_ends ns n k (suc f) i ne e)
      | goes ne l e ↦ omega (arith, stop_goes ns n k f i l ne e, onwards ns n i k l up e, stop_later ns n k up f l)
    ]

-- a step goes up by one at least, so more steps than there are entries left change nothing
pub stop_more : (ns : List Node) (n k : ℕ) → Upward ns n → (f g i : ℕ) → i < n → n ≤ f + i → n ≤ g + i → stop ns n k f i ≡ stop ns n k g i
stop_more ns n k up zero g i h a b = absurd (omega arith)
stop_more ns n k up (suc f) zero i h a b = absurd (omega arith)
stop_more ns n k up (suc f) (suc g) i h a b =
    elim (step ns n k i) [
      | held e ↦ stop_held ns n k (suc f) i e ∙ sym (stop_held ns n k (suc g) i e)
      | ends ne e ↦ stop_ends ns n k (suc f) i ne e ∙ sym (stop_ends ns n k (suc g) i ne e)
      | goes ne l e ↦ (let m = onwards ns n i k l up e in
          stop_goes ns n k f i l ne e ∙ stop_more ns n k up f g l (under ns n i k l e).within (omega arith) (omega arith) ∙ sym (stop_goes ns n k g i l ne e))
    ]

-- where the walk stops, the code is found or nothing is below
pub stop_last : (ns : List Node) (n k : ℕ) → Upward ns n → (f i : ℕ) → i < n → n ≤ f + i → ((node_at ns (stop ns n k f i)).code ≡ k) ⊎ (below ns n (stop ns n k f i) k ≡ None)
stop_last ns n k up zero i h a = absurd (omega arith)
stop_last ns n k up (suc f) i h a =
    elim (step ns n k i) [
      | held e ↦ inl (rw (stop_held ns n k (suc f) i e) e)
      | ends ne e ↦ inr (rw (stop_ends ns n k (suc f) i ne e) e)
      | goes ne l e ↦ (let m = onwards ns n i k l up e in
          rw (stop_goes ns n k f i l ne e) (stop_last ns n k up f l (under ns n i k l e).within (omega arith)))
    ]

-- a step changes nothing where the walk stops
pub stop_next : (ns : List Node) (n k i l : ℕ) → Upward ns n → i < n → ((node_at ns i).code ≡ k → ⊥) → below ns n i k ≡ Some l → stop ns n k n l ≡ stop ns n k n i
stop_next ns n k i l up h ne e =
    let m = onwards ns n i k l up e in
    let w = (under ns n i k l e).within in
    stop_more ns n k up n (n + n) l w (omega arith) (omega arith) ∙ sym (stop_goes ns n k (n + n) i l ne e) ∙ sym (stop_more ns n k up n (suc (n + n)) i h (omega arith) (omega arith))
