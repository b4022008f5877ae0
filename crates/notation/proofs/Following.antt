-- A text that walks to an accepting state is spelled by a tree, and a text that walks to any state goes on.
use Rattle.std.proofs.Common.{◌≡◌, ℕ, suc, Bool, true, false, ◌⊎◌, List, [], ◌∷◌, ◌++◌, sym, refl, ap, ◌∙◌, inl, inr, arith}
use Rattle.std.proofs.lemmas.List.{append_assoc}
use Rattle.notation.specs.Grammar.{Bell, Item, dash, ex, run, Sign, Block, bytes, items, spell_block, spell_more, Notation, GoesOn}
use Rattle.notation.specs.declared.fault.Fault.{Fault}
use Rattle.notation.specs.Reading.{Kind, Seen, State, Step, goes, halts, kind, start}
use Rattle.notation.proofs.Shape.{shape, walk, walk_append, Accepts, Means, means}
use Rattle.notation.proofs.Spelling.{spelled}

-- what the rest of a notation is, by what stands before it
abbrev Follows : Seen → List ℕ → Type 0
Follows Seen.fresh w = (b : Block) × (bs : List Block) × (spell_block b ++ spell_more bs ≡ w)
Follows Seen.signed w = (i : Item) × (is : List Item) × (bs : List Block) × (items false (i ∷ is) ++ spell_more bs ≡ w)
Follows Seen.crossed w = (is : List Item) × (bs : List Block) × (items false is ++ spell_more bs ≡ w)
Follows (Seen.running p ws) w = (cs : List Bell) × (is : List Item) × (bs : List Block) × (bytes cs ++ (items true is ++ spell_more bs) ≡ w)
Follows Seen.pointed w = (c : Bell) × (cs : List Bell) × (is : List Item) × (bs : List Block) × (c.byte ∷ (bytes cs ++ (items true is ++ spell_more bs)) ≡ w)

-- the bytes of a run that stands first, grouped with the items behind it
joins : (c : Bell) (cs : List Bell) (is : List Item) (bs : List Block) (w : List ℕ) → bytes cs ++ (items true is ++ spell_more bs) ≡ w
    → (c.byte ∷ (bytes cs ++ items true is)) ++ spell_more bs ≡ c.byte ∷ w
joins c cs is bs w e = ap (λ (y : List ℕ). c.byte ∷ y) (append_assoc (bytes cs) (items true is) (spell_more bs) ∙ e)

-- a bell character begins a run, or makes one longer
follows_bell : (s : Seen) (c : Bell) (p : ℕ) (ws w : List ℕ) → Follows (Seen.running p ws) w → Follows s (c.byte ∷ w)
follows_bell Seen.fresh c p ws w (cs, is, bs, e) = (record { sign = Sign.none; first = run c cs; rest = is }, bs, joins c cs is bs w e)
follows_bell Seen.signed c p ws w (cs, is, bs, e) = (run c cs, is, bs, joins c cs is bs w e)
follows_bell Seen.crossed c p ws w (cs, is, bs, e) = (run c cs ∷ is, bs, joins c cs is bs w e)
follows_bell (Seen.running q us) c p ws w (cs, is, bs, e) = (c ∷ cs, is, bs, ap (λ (y : List ℕ). c.byte ∷ y) e)
follows_bell Seen.pointed c p ws w (cs, is, bs, e) = (c, cs, is, bs, ap (λ (y : List ℕ). c.byte ∷ y) e)

-- a byte that is a cross is the spelling of a change
cross_item : (b : ℕ) → (b ≡ 45) ⊎ (b ≡ 120) → (i : Item) × ((r : Bool) (is : List Item) → items r (i ∷ is) ≡ b ∷ items false is)
cross_item b (inl e) = (dash, λ r is. ap (λ (y : ℕ). y ∷ items false is) (sym e))
cross_item b (inr e) = (ex, λ r is. ap (λ (y : ℕ). y ∷ items false is) (sym e))

-- that change, before the items and blocks that follow
cross_joins : (b : ℕ) (m : (b ≡ 45) ⊎ (b ≡ 120)) (r : Bool) (is : List Item) (bs : List Block) (w : List ℕ) → items false is ++ spell_more bs ≡ w
    → items r ((cross_item b m).0 ∷ is) ++ spell_more bs ≡ b ∷ w
cross_joins b m r is bs w e = ap (λ (y : List ℕ). y ++ spell_more bs) ((cross_item b m).1 r is) ∙ ap (λ (y : List ℕ). b ∷ y) e

-- a halted walk does not arrive
pub halted : {f : Fault} {st : State} → halts f ≡ goes st → ⊥
halted e = let z : ◌≡◌ {A = ℕ} 0 1 = cc in omega arith

-- one byte more in front of what follows
follows_byte : (k : Kind) (s : Seen) (b : ℕ) (w : List ℕ) (j : ℕ) (st end : State)
    → ((st' : State) → walk (suc j) (goes st') w ≡ goes end → Follows st'.seen w)
    → Means b k → walk (suc j) (shape j k s st) w ≡ goes end → Follows s (b ∷ w)
follows_byte (Kind.bell v) Seen.fresh b w j st end ih m h = follows_bell Seen.fresh (record { byte = b; names = m.0 }) 0 [] w (ih _ h)
follows_byte (Kind.bell v) Seen.signed b w j st end ih m h = follows_bell Seen.signed (record { byte = b; names = m.0 }) 0 [] w (ih _ h)
follows_byte (Kind.bell v) Seen.crossed b w j st end ih m h = follows_bell Seen.crossed (record { byte = b; names = m.0 }) 0 [] w (ih _ h)
follows_byte (Kind.bell v) (Seen.running p ws) b w j st end ih m h = follows_bell (Seen.running p ws) (record { byte = b; names = m.0 }) 0 [] w (ih _ h)
follows_byte (Kind.bell v) Seen.pointed b w j st end ih m h = follows_bell Seen.pointed (record { byte = b; names = m.0 }) 0 [] w (ih _ h)
follows_byte Kind.cross Seen.fresh b w j st end ih m h = let (is, bs, e) = ih _ h in (record { sign = Sign.none; first = (cross_item b m).0; rest = is }, bs, cross_joins b m false is bs w e)
follows_byte Kind.cross Seen.signed b w j st end ih m h = let (is, bs, e) = ih _ h in ((cross_item b m).0, is, bs, cross_joins b m false is bs w e)
follows_byte Kind.cross Seen.crossed b w j st end ih m h = let (is, bs, e) = ih _ h in ((cross_item b m).0 ∷ is, bs, cross_joins b m false is bs w e)
follows_byte Kind.cross (Seen.running p ws) b w j st end ih m h = let (is, bs, e) = ih _ h in ([], (cross_item b m).0 ∷ is, bs, cross_joins b m true is bs w e)
follows_byte Kind.cross Seen.pointed b w j st end ih m h = absurd (halted h)
follows_byte Kind.point Seen.fresh b w j st end ih m h = absurd (halted h)
follows_byte Kind.point Seen.signed b w j st end ih m h = absurd (halted h)
follows_byte Kind.point Seen.crossed b w j st end ih m h = absurd (halted h)
follows_byte Kind.point (Seen.running p ws) b w j st end ih m h =
    let (c, cs, is, bs, e) = ih _ h in
    ([], run c cs ∷ is, bs, ap (λ (y : List ℕ). 46 ∷ c.byte ∷ y) (append_assoc (bytes cs) (items true is) (spell_more bs)) ∙ ap (λ (y : List ℕ). 46 ∷ y) e ∙ ap (λ (y : ℕ). y ∷ w) (sym m))
follows_byte Kind.point Seen.pointed b w j st end ih m h = absurd (halted h)
follows_byte Kind.comma Seen.fresh b w j st end ih m h = absurd (halted h)
follows_byte Kind.comma Seen.signed b w j st end ih m h = absurd (halted h)
follows_byte Kind.comma Seen.crossed b w j st end ih m h = let (x, xs, e) = ih _ h in ([], x ∷ xs, ap (λ (y : List ℕ). 44 ∷ y) e ∙ ap (λ (y : ℕ). y ∷ w) (sym m))
follows_byte Kind.comma (Seen.running p ws) b w j st end ih m h = let (x, xs, e) = ih _ h in ([], [], x ∷ xs, ap (λ (y : List ℕ). 44 ∷ y) e ∙ ap (λ (y : ℕ). y ∷ w) (sym m))
follows_byte Kind.comma Seen.pointed b w j st end ih m h = absurd (halted h)
follows_byte (Kind.sign Sign.none) Seen.fresh b w j st end ih m h = absurd m
follows_byte (Kind.sign Sign.amp) Seen.fresh b w j st end ih m h =
    let (i, is, bs, e) = ih _ h in (record { sign = Sign.amp; first = i; rest = is }, bs, ap (λ (y : List ℕ). 38 ∷ y) e ∙ ap (λ (y : ℕ). y ∷ w) (sym m))
follows_byte (Kind.sign Sign.plus) Seen.fresh b w j st end ih m h =
    let (i, is, bs, e) = ih _ h in (record { sign = Sign.plus; first = i; rest = is }, bs, ap (λ (y : List ℕ). 43 ∷ y) e ∙ ap (λ (y : ℕ). y ∷ w) (sym m))
follows_byte (Kind.sign g) Seen.signed b w j st end ih m h = absurd (halted h)
follows_byte (Kind.sign g) Seen.crossed b w j st end ih m h = absurd (halted h)
follows_byte (Kind.sign g) (Seen.running p ws) b w j st end ih m h = absurd (halted h)
follows_byte (Kind.sign g) Seen.pointed b w j st end ih m h = absurd (halted h)
follows_byte Kind.other s b w j st end ih m h = absurd (halted h)

-- nothing follows where a notation may end
follows_none : (s : Seen) → Accepts s → Follows s []
follows_none Seen.fresh a = absurd a
follows_none Seen.signed a = absurd a
follows_none Seen.crossed a = ([], [], refl)
follows_none (Seen.running p ws) a = ([], [], [], refl)
follows_none Seen.pointed a = absurd a

-- the rest of a text that is accepted, byte by byte from the front
follows : (w : List ℕ) (j : ℕ) (st end : State) → walk j (goes st) w ≡ goes end → Accepts end.seen → Follows st.seen w
follows [] j st end h a = follows_none st.seen (let e : st ≡ end = cc in rw e a)
follows (b ∷ w) j st end h a = follows_byte (kind b) st.seen b w j st end (λ st' g. follows w (suc j) st' end g a) (means b) h

-- a text that is accepted is a notation
pub is_notation : (u : List ℕ) (st : State) → walk 0 (goes start) u ≡ goes st → Accepts st.seen → Notation u
is_notation u st h a = let (b, bs, e) = follows u 0 start st h a in (record { block = b; blocks = bs }, e)

-- after any state a bell character may stand, and a notation may end there
bell_goes : (j v : ℕ) (s : Seen) (st : State) → (st' : State) × (shape j (Kind.bell v) s st ≡ goes st') × Accepts st'.seen
bell_goes j v Seen.fresh st = (_, refl, tt)
bell_goes j v Seen.signed st = (_, refl, tt)
bell_goes j v Seen.crossed st = (_, refl, tt)
bell_goes j v (Seen.running p ws) st = (_, refl, tt)
bell_goes j v Seen.pointed st = (_, refl, tt)

-- a text that is not rejected goes on: with one place more it is a notation
pub goes_on : (u : List ℕ) (st : State) → walk 0 (goes start) u ≡ goes st → GoesOn u
goes_on u st h =
    let r = walk_append u (49 ∷ []) 0 (goes start) in
    let g = bell_goes r.0 1 st.seen st in
    (49 ∷ [], is_notation (u ++ 49 ∷ []) g.0 (r.2 ∙ ap (λ (s : Step). walk r.0 s (49 ∷ [])) h ∙ ap (λ (s : Step). walk (suc r.0) s []) g.1) g.2)

-- a walk that arrives in the end has not halted before
arrived : (i : ℕ) (s : Step) (v : List ℕ) (end : State) → walk i s v ≡ goes end → (st : State) × (s ≡ goes st)
arrived i (goes st) v end h = (st, refl)
arrived i (halts f) v end h = absurd (halted h)

-- a text that goes on is not rejected
pub not_rejected : (u : List ℕ) → GoesOn u → (st : State) × (walk 0 (goes start) u ≡ goes st)
not_rejected u (v, (x, e)) =
    let r = walk_append u v 0 (goes start) in
    let t = spelled x in
    arrived r.0 (walk 0 (goes start) u) v t.0 (sym r.2 ∙ ap (λ (y : List ℕ). walk 0 (goes start) y) (sym e) ∙ t.1)
