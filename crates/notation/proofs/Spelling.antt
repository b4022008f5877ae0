-- Where the spelling of a tree walks to: a state that has the tree's changes and its last change.
use Rattle.std.proofs.Common.{◌≡◌, ℕ, suc, Bool, true, false, List, [], ◌∷◌, ◌++◌, map, length, sym, refl, ap, ◌∙◌}
use Rattle.rows.specs.Text.{named}
use Rattle.std.proofs.lemmas.List.{append-nil, append_assoc, length-map}
use Rattle.notation.specs.Faults.{final, last_item, width}
use Rattle.notation.specs.Grammar.{Bell, Item, dash, ex, run, Sign, Block, Tree, bytes, items, spell_block, spell_more, spell, written, doubled, block_changes, more_changes, in_order}
use Rattle.notation.specs.Reading.{Kind, Seen, State, Step, goes, seeing, start}
use Rattle.notation.proofs.Shape.{shape, walk, kind_bell, walk_one}

-- the changes of a block, with the run that stands last
abbrev pub kept : List (List ℕ) → Seen → List (List ℕ)
kept cs Seen.fresh = cs
kept cs Seen.signed = cs
kept cs Seen.crossed = cs
kept cs (Seen.running p ws) = cs ++ ws ∷ []
kept cs Seen.pointed = cs

-- this change stands last
abbrev pub Ends : Seen → Item → Type 0
Ends Seen.fresh i = ⊥
Ends Seen.signed i = ⊥
Ends Seen.crossed dash = Unit {0}
Ends Seen.crossed ex = Unit {0}
Ends Seen.crossed (run b bs) = ⊥
Ends (Seen.running p ws) dash = ⊥
Ends (Seen.running p ws) ex = ⊥
Ends (Seen.running p ws) (run b bs) = written (run b bs) ≡ ws
Ends Seen.pointed i = ⊥

-- items may follow here, spelled as behind a run or not
abbrev Takes : Bool → Seen → Type 0
Takes false Seen.fresh = Unit {0}
Takes false Seen.signed = Unit {0}
Takes false Seen.crossed = Unit {0}
Takes false (Seen.running p ws) = ⊥
Takes false Seen.pointed = ⊥
Takes true Seen.fresh = ⊥
Takes true Seen.signed = ⊥
Takes true Seen.crossed = ⊥
Takes true (Seen.running p ws) = Unit {0}
Takes true Seen.pointed = ⊥

-- the item is a run
abbrev is_run : Item → Bool
is_run dash = false
is_run ex = false
is_run (run b bs) = true

-- what stands behind an item takes the next one
takes : (s : Seen) (i : Item) → Ends s i → Takes (is_run i) s
takes Seen.fresh i e = absurd e
takes Seen.signed i e = absurd e
takes Seen.crossed dash e = tt
takes Seen.crossed ex e = tt
takes Seen.crossed (run b bs) e = absurd e
takes (Seen.running p ws) dash e = absurd e
takes (Seen.running p ws) ex e = absurd e
takes (Seen.running p ws) (run b bs) e = tt
takes Seen.pointed i e = absurd e

-- further bell characters make a run longer
walk_bells : (bs : List Bell) (v : List ℕ) (j : ℕ) (st : State) (p : ℕ) (ws : List ℕ)
    → (i : ℕ) × (walk j (goes (seeing st (Seen.running p ws))) (bytes bs ++ v) ≡ walk i (goes (seeing st (Seen.running p (ws ++ map (λ (x : Bell). named x.byte) bs)))) v)
walk_bells [] v j st p ws = (j, rw append-nil refl)
walk_bells (b ∷ bs) v j st p ws =
    let r = walk_bells bs v (suc j) st p (ws ++ named b.byte ∷ []) in (
      r.0,
      walk_one j b.byte (Kind.bell (named b.byte)) (seeing st (Seen.running p ws)) (bytes bs ++ v) (kind_bell b.byte b.names) ∙ r.1
          ∙ ap (λ (y : List ℕ). walk r.0 (goes (seeing st (Seen.running p y))) v) (append_assoc ws (named b.byte ∷ []) (map (λ (x : Bell). named x.byte) bs)),
    )

module _ (w : List (List ℕ)) (f : ℕ) (g : Sign) where
  -- a state of the block whose sign and begin are known
  abbrev stand : List (List ℕ) → Seen → State
  stand cs s = record { whole = w; from = f; sign = g; block = cs; seen = s }

  -- the walk from here through a text comes to a state before the rest, with these changes and this change last
  abbrev Comes : ℕ → State → List ℕ → List ℕ → List (List ℕ) → Item → Type 0
  Comes j st u v cs i = (k : ℕ) × (ds : List (List ℕ)) × (s : Seen) × (walk j (goes st) u ≡ walk k (goes (stand ds s)) v) × (kept ds s ≡ cs) × Ends s i

  -- a run behind its first bell character
  walk_run : (b : Bell) (bs : List Bell) (v : List ℕ) (j p : ℕ) (cs : List (List ℕ))
      → Comes j (stand cs (Seen.running p (named b.byte ∷ []))) (bytes bs ++ v) v (cs ++ written (run b bs) ∷ []) (run b bs)
  walk_run b bs v j p cs =
      let r = walk_bells bs v j (stand cs Seen.fresh) p (named b.byte ∷ []) in
      (r.0, cs, Seen.running p (written (run b bs)), r.1, refl, refl)

  -- a run from where one may begin
  walk_begin : (b : Bell) (bs : List Bell) (v : List ℕ) (j : ℕ) (cs : List (List ℕ)) (s : Seen) → shape j (Kind.bell (named b.byte)) s (stand cs s) ≡ goes (stand cs (Seen.running j (named b.byte ∷ [])))
      → Comes j (stand cs s) (b.byte ∷ (bytes bs ++ v)) v (cs ++ written (run b bs) ∷ []) (run b bs)
  walk_begin b bs v j cs s e =
      let r = walk_run b bs v (suc j) j cs in
      (r.0, r.1, r.2, walk_one j b.byte (Kind.bell (named b.byte)) (stand cs s) (bytes bs ++ v) (kind_bell b.byte b.names) ∙ ap (λ (x : Step). walk (suc j) x (bytes bs ++ v)) e ∙ r.3, r.4, r.5)

  -- a cross stands behind all that takes an item
  crossing : (r : Bool) (s : Seen) (j : ℕ) (cs : List (List ℕ)) → Takes r s → shape j Kind.cross s (stand cs s) ≡ goes (stand (kept cs s ++ [] ∷ []) Seen.crossed)
  crossing false Seen.fresh j cs h = refl
  crossing false Seen.signed j cs h = refl
  crossing false Seen.crossed j cs h = refl
  crossing false (Seen.running p ws) j cs h = absurd h
  crossing false Seen.pointed j cs h = absurd h
  crossing true Seen.fresh j cs h = absurd h
  crossing true Seen.signed j cs h = absurd h
  crossing true Seen.crossed j cs h = absurd h
  crossing true (Seen.running p ws) j cs h = refl
  crossing true Seen.pointed j cs h = absurd h

  -- the two ways to group the bytes of a run, the items behind it and the rest
  grouped : (b : Bell) (bs : List Bell) (is : List Item) (v : List ℕ) → b.byte ∷ ((bytes bs ++ items true is) ++ v) ≡ b.byte ∷ (bytes bs ++ (items true is ++ v))
  grouped b bs is v = ap (λ (y : List ℕ). b.byte ∷ y) (append_assoc (bytes bs) (items true is) v)

  -- one item, however it is spelled
  walk_item : (i : Item) (is : List Item) (r : Bool) (s : Seen) (v : List ℕ) (j : ℕ) (cs : List (List ℕ)) → Takes r s
      → Comes j (stand cs s) (items r (i ∷ is) ++ v) (items (is_run i) is ++ v) (kept cs s ++ written i ∷ []) i
  walk_item dash is r s v j cs h = (suc j, kept cs s ++ [] ∷ [], Seen.crossed, ap (λ (x : Step). walk (suc j) x (items false is ++ v)) (crossing r s j cs h), refl, tt)
  walk_item ex is r s v j cs h = (suc j, kept cs s ++ [] ∷ [], Seen.crossed, ap (λ (x : Step). walk (suc j) x (items false is ++ v)) (crossing r s j cs h), refl, tt)
  walk_item (run b bs) is false Seen.fresh v j cs h = rw (grouped b bs is v) (walk_begin b bs (items true is ++ v) j cs Seen.fresh refl)
  walk_item (run b bs) is false Seen.signed v j cs h = rw (grouped b bs is v) (walk_begin b bs (items true is ++ v) j cs Seen.signed refl)
  walk_item (run b bs) is false Seen.crossed v j cs h = rw (grouped b bs is v) (walk_begin b bs (items true is ++ v) j cs Seen.crossed refl)
  walk_item (run b bs) is false (Seen.running p ws) v j cs h = absurd h
  walk_item (run b bs) is false Seen.pointed v j cs h = absurd h
  walk_item (run b bs) is true Seen.fresh v j cs h = absurd h
  walk_item (run b bs) is true Seen.signed v j cs h = absurd h
  walk_item (run b bs) is true Seen.crossed v j cs h = absurd h
  walk_item (run b bs) is true (Seen.running p ws) v j cs h = rw (grouped b bs is v) (walk_begin b bs (items true is ++ v) (suc j) (cs ++ ws ∷ []) Seen.pointed refl)
  walk_item (run b bs) is true Seen.pointed v j cs h = absurd h

  -- items, one after the other
  walk_items : (i : Item) (is : List Item) (r : Bool) (s : Seen) (v : List ℕ) (j : ℕ) (cs : List (List ℕ)) → Takes r s
      → Comes j (stand cs s) (items r (i ∷ is) ++ v) v (kept cs s ++ map written (i ∷ is)) (final i is)
  walk_items i [] r s v j cs h = walk_item i [] r s v j cs h
  walk_items i (x ∷ xs) r s v j cs h =
      let a = walk_item i (x ∷ xs) r s v j cs h in
      let c = walk_items x xs (is_run i) a.2 v a.0 a.1 (takes a.2 i a.5) in
      (c.0, c.1, c.2, a.3 ∙ c.3, c.4 ∙ (ap (λ (y : List (List ℕ)). y ++ map written (x ∷ xs)) a.4 ∙ append_assoc (kept cs s) (written i ∷ []) (map written (x ∷ xs))), c.5)

-- a block, from its first byte
walk_block : (b : Block) (v : List ℕ) (j f : ℕ) (w : List (List ℕ))
    → Comes w f b.sign j (stand w f Sign.none [] Seen.fresh) (spell_block b ++ v) v (map written (b.first ∷ b.rest)) (final b.first b.rest)
walk_block b v j f w = with_sign b.sign
  where
    with_sign : (g : Sign) → Comes w f g j (stand w f Sign.none [] Seen.fresh) (Rattle.notation.specs.Grammar.signed g (items false (b.first ∷ b.rest)) ++ v) v (map written (b.first ∷ b.rest)) (final b.first b.rest)
    with_sign Sign.none = walk_items w f Sign.none b.first b.rest false Seen.fresh v j [] tt
    with_sign Sign.amp = walk_items w f Sign.amp b.first b.rest false Seen.signed v (suc j) [] tt
    with_sign Sign.plus = walk_items w f Sign.plus b.first b.rest false Seen.signed v (suc j) [] tt

-- all changes that a state knows, the run that stands last among them
abbrev pub told : State → List (List ℕ)
told st = st.whole ++ doubled st.sign (kept st.block st.seen)

-- a comma behind an item closes the block
closing : (s : Seen) (i : Item) (w : List (List ℕ)) (f : ℕ) (g : Sign) (cs : List (List ℕ)) (j : ℕ) → Ends s i
    → shape j Kind.comma s (stand w f g cs s) ≡ goes (stand (w ++ doubled g (kept cs s)) (suc j) Sign.none [] Seen.fresh)
closing Seen.fresh i w f g cs j e = absurd e
closing Seen.signed i w f g cs j e = absurd e
closing Seen.crossed i w f g cs j e = refl
closing (Seen.running p ws) i w f g cs j e = refl
closing Seen.pointed i w f g cs j e = absurd e

-- the walk ends in a state with these changes and this change last
abbrev Arrives : Step → List (List ℕ) → Item → Type 0
Arrives s cs i = (st : State) × (s ≡ goes st) × (told st ≡ cs) × Ends st.seen i

-- blocks, one after the other
walk_blocks : (bs : List Block) (b : Block) (j f : ℕ) (w : List (List ℕ))
    → Arrives (walk j (goes (stand w f Sign.none [] Seen.fresh)) (spell_block b ++ spell_more bs)) (w ++ (block_changes b ++ more_changes bs)) (final (final b bs).first (final b bs).rest)
walk_blocks [] b j f w =
    let r = walk_block b [] j f w in
    (stand w f b.sign r.1 r.2, r.3, ap (λ (y : List (List ℕ)). w ++ doubled b.sign y) r.4 ∙ ap (λ (y : List (List ℕ)). w ++ y) (sym (append-nil (block_changes b))), r.5)
walk_blocks (x ∷ xs) b j f w =
    let r = walk_block b (spell_more (x ∷ xs)) j f w in
    let c = walk_blocks xs x (suc r.0) (suc r.0) (w ++ block_changes b) in (
      c.0,
      r.3 ∙ ap (λ (y : Step). walk (suc r.0) y (spell_block x ++ spell_more xs)) (closing r.2 (final b.first b.rest) w f b.sign r.1 r.0 r.5
          ∙ ap (λ (y : List (List ℕ)). goes (stand (w ++ doubled b.sign y) (suc r.0) Sign.none [] Seen.fresh)) r.4) ∙ c.1,
      c.2 ∙ append_assoc w (block_changes b) (more_changes (x ∷ xs)),
      c.3,
    )

-- a tree tells of a state what the state has read
pub record Spelled (x : Tree) (st : State) : Type 0 where
  pub changes : told st ≡ in_order x
  pub ends : Ends st.seen (last_item x)

-- a tree's spelling walks to a state that has its changes
pub spelled : (x : Tree) → (st : State) × (walk 0 (goes start) (spell x) ≡ goes st) × Spelled x st
spelled x = let r = walk_blocks x.blocks x.block 0 0 [] in (r.0, r.1, record { changes = r.2; ends = r.3 })

-- so does a text that it spells
pub spelled_at : (x : Tree) (u : List ℕ) (st : State) → spell x ≡ u → walk 0 (goes start) u ≡ goes st → Spelled x st
spelled_at x u st e h =
    let r = spelled x in
    let same : r.0 ≡ st = cc (r.1, ap (λ (y : List ℕ). walk 0 (goes start) y) e) in
    rw same at r.2

-- a run is as wide as it has places
width_run : (b : Bell) (bs : List Bell) → width (run b bs) ≡ length (written (run b bs))
width_run b bs = simp (append-nil, length-map) refl

-- how wide the change is that stands last
abbrev pub wide : Seen → ℕ
wide Seen.fresh = 0
wide Seen.signed = 0
wide Seen.crossed = 1
wide (Seen.running p ws) = length ws
wide Seen.pointed = 0

-- a state tells the width of the last change
pub ends_wide : (s : Seen) (i : Item) → Ends s i → width i ≡ wide s
ends_wide Seen.fresh i d = absurd d
ends_wide Seen.signed i d = absurd d
ends_wide Seen.crossed dash d = refl
ends_wide Seen.crossed ex d = refl
ends_wide Seen.crossed (run b bs) d = absurd d
ends_wide (Seen.running p ws) dash d = absurd d
ends_wide (Seen.running p ws) ex d = absurd d
ends_wide (Seen.running p ws) (run b bs) d = width_run b bs ∙ ap (λ (y : List ℕ). length y) d
ends_wide Seen.pointed i d = absurd d

-- two trees that spell the same walk to the same state, so they have the same changes and a last change of the same width
pub same_spelled : (x y : Tree) (u : List ℕ) → spell x ≡ u → spell y ≡ u → (in_order x ≡ in_order y) × (width (last_item x) ≡ width (last_item y))
same_spelled x y u a b =
    let r = spelled x in
    let z = spelled_at y (spell x) r.0 (b ∙ sym a) r.1 in
    (sym r.2.changes ∙ z.changes, ends_wide r.0.seen (last_item x) r.2.ends ∙ sym (ends_wide r.0.seen (last_item y) z.ends))
