-- Walking through a text by its shape alone: what the reading does when every change can be rung and no block has too many.
use Rattle.std.proofs.Common.{◌≡◌, ℕ, suc, ◌+◌, ◌<◌, Bool, true, false, cond, eqb, ltb, ◌⊎◌, List, [], ◌∷◌, ◌++◌, length, refl, ap, arith}
use Rattle.rows.specs.Text.{named}
use Rattle.std.proofs.lemmas.Bool.{cond-true, lt-ltb, ltb-true, eqb-true}
use Rattle.notation.specs.Grammar.{Sign}
use Rattle.notation.specs.declared.fault.Fault.TheVariants.{Byte}
use Rattle.notation.specs.Reading.{Kind, Seen, State, Step, goes, halts, mark, kind, seeing, all_changes}

-- the change with these places is added to the block
abbrev pub grown : List ℕ → State → State
grown ws st = record { whole = st.whole; from = st.from; sign = st.sign; block = st.block ++ ws ∷ []; seen = Seen.crossed }

-- the block is whole, and the next begins at j
abbrev pub shut : ℕ → State → State
shut j st = record { whole = all_changes st; from = j; sign = Sign.none; block = []; seen = Seen.fresh }

-- a bell character begins a run, or makes one longer
abbrev pub on_bell : ℕ → ℕ → Seen → State → Step
on_bell j v Seen.fresh st = goes (seeing st (Seen.running j (v ∷ [])))
on_bell j v Seen.signed st = goes (seeing st (Seen.running j (v ∷ [])))
on_bell j v Seen.crossed st = goes (seeing st (Seen.running j (v ∷ [])))
on_bell j v (Seen.running p ws) st = goes (seeing st (Seen.running p (ws ++ v ∷ [])))
on_bell j v Seen.pointed st = goes (seeing st (Seen.running j (v ∷ [])))

-- a cross stands everywhere but behind a point
abbrev pub on_cross : ℕ → Seen → State → Step
on_cross j Seen.fresh st = goes (grown [] st)
on_cross j Seen.signed st = goes (grown [] st)
on_cross j Seen.crossed st = goes (grown [] st)
on_cross j (Seen.running p ws) st = goes (grown [] (grown ws st))
on_cross j Seen.pointed st = halts (Byte j)

-- a point stands behind a run
abbrev pub on_point : ℕ → Seen → State → Step
on_point j Seen.fresh st = halts (Byte j)
on_point j Seen.signed st = halts (Byte j)
on_point j Seen.crossed st = halts (Byte j)
on_point j (Seen.running p ws) st = goes (seeing (grown ws st) Seen.pointed)
on_point j Seen.pointed st = halts (Byte j)

-- a comma stands behind a change
abbrev pub on_comma : ℕ → Seen → State → Step
on_comma j Seen.fresh st = halts (Byte j)
on_comma j Seen.signed st = halts (Byte j)
on_comma j Seen.crossed st = goes (shut (suc j) st)
on_comma j (Seen.running p ws) st = goes (shut (suc j) (grown ws st))
on_comma j Seen.pointed st = halts (Byte j)

-- a sign is the first byte of a block
abbrev pub on_sign : ℕ → Sign → Seen → State → Step
on_sign j s Seen.fresh st = goes (record { whole = st.whole; from = st.from; sign = s; block = st.block; seen = Seen.signed })
on_sign j s Seen.signed st = halts (Byte j)
on_sign j s Seen.crossed st = halts (Byte j)
on_sign j s (Seen.running p ws) st = halts (Byte j)
on_sign j s Seen.pointed st = halts (Byte j)

-- the byte at j, of this kind
abbrev pub shape : ℕ → Kind → Seen → State → Step
shape j (Kind.bell v) s st = on_bell j v s st
shape j Kind.cross s st = on_cross j s st
shape j Kind.point s st = on_point j s st
shape j Kind.comma s st = on_comma j s st
shape j (Kind.sign g) s st = on_sign j g s st
shape j Kind.other s st = halts (Byte j)

-- the bytes from j on
abbrev pub walk : ℕ → Step → List ℕ → Step
walk j (halts f) bs = halts f
walk j (goes st) [] = goes st
walk j (goes st) (b ∷ bs) = walk (suc j) (shape j (kind b) st.seen st) bs

-- a notation may end here
abbrev pub Accepts : Seen → Type 0
Accepts Seen.fresh = ⊥
Accepts Seen.signed = ⊥
Accepts Seen.crossed = Unit {0}
Accepts (Seen.running p ws) = Unit {0}
Accepts Seen.pointed = ⊥

-- a byte that names a place is a bell character
pub kind_bell : (b : ℕ) → 0 < named b → kind b ≡ Kind.bell (named b)
kind_bell b h = cond-true (ltb 0 (named b)) (Kind.bell (named b)) (mark b) (lt-ltb 0 (named b) h)

-- one byte of a known kind
pub walk_one : (j b : ℕ) (k : Kind) (st : State) (v : List ℕ) → kind b ≡ k → walk j (goes st) (b ∷ v) ≡ walk (suc j) (shape j k st.seen st) v
walk_one j b k st v e = ap (λ (x : Kind). walk (suc j) (shape j x st.seen st) v) e

-- the walk through two texts is the walk through the second from where the first ends
pub walk_append : (u v : List ℕ) (j : ℕ) (s : Step) → (i : ℕ) × (i ≡ j + length u) × (walk j s (u ++ v) ≡ walk i (walk j s u) v)
walk_append u v j (halts f) = (j + length u, refl, refl)
walk_append [] v j (goes st) = (j, omega arith, refl)
walk_append (b ∷ u) v j (goes st) = let r = walk_append u v (suc j) (shape j (kind b) st.seen st) in (r.0, omega (arith, r.1), r.2)

-- what a byte is whose kind is known
abbrev pub Means : ℕ → Kind → Type 0
Means b (Kind.bell v) = (0 < named b) × (v ≡ named b)
Means b Kind.cross = (b ≡ 45) ⊎ (b ≡ 120)
Means b Kind.point = b ≡ 46
Means b Kind.comma = b ≡ 44
Means b (Kind.sign Sign.none) = ⊥
Means b (Kind.sign Sign.amp) = b ≡ 38
Means b (Kind.sign Sign.plus) = b ≡ 43
Means b Kind.other = Unit {0}

-- a choice by a test has what both sides have
chosen : (b : ℕ) (c : Bool) (x y : Kind) → (c ≡ true → Means b x) → Means b y → Means b (cond c x y)
chosen b true x y f m = f refl
chosen b false x y f m = m

-- each test of a kind says what the byte is
pub means : (b : ℕ) → Means b (kind b)
means b = chosen b (ltb 0 (named b)) _ _ (λ e. (ltb-true 0 (named b) e, refl))
    (chosen b (eqb b 45) _ _ (λ e. ◌⊎◌.inl (eqb-true b 45 e))
    (chosen b (eqb b 120) _ _ (λ e. ◌⊎◌.inr (eqb-true b 120 e))
    (chosen b (eqb b 46) _ _ (λ e. eqb-true b 46 e)
    (chosen b (eqb b 44) _ _ (λ e. eqb-true b 44 e)
    (chosen b (eqb b 38) _ _ (λ e. eqb-true b 38 e)
    (chosen b (eqb b 43) _ _ (λ e. eqb-true b 43 e) tt))))))
