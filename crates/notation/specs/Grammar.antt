-- What a place notation is, how it is spelled, and which changes it means.
use Rattle.std.specs.Prelude.{◌≡◌, ℕ, ◌<◌, Bool, true, false, List, [], ◌∷◌, ◌++◌, map, reverse, drop}
use Rattle.rows.specs.Text.{named}

-- a bell character: a byte that names a place
pub record Bell : Type 0 where
  pub byte : ℕ
  pub names : 0 < named byte

-- a change as it is written: `-`, `x`, or a run of bell characters
pub data Item : Type 0 where
  dash : Item
  ex : Item
  run : Bell → List Bell → Item

pub data Sign : Type 0 where
  none : Sign
  amp : Sign
  plus : Sign

pub record Block : Type 0 where
  pub sign : Sign
  pub first : Item
  pub rest : List Item

pub record Tree : Type 0 where
  pub block : Block
  pub blocks : List Block

abbrev pub bytes : List Bell → List ℕ
bytes bs = map (λ (b : Bell). b.byte) bs

-- items, one behind the other; the test says whether a run stands directly before them: between two runs stands a point
abbrev pub items : Bool → List Item → List ℕ
items r [] = []
items r (dash ∷ is) = 45 ∷ items false is
items r (ex ∷ is) = 120 ∷ items false is
items false (run b bs ∷ is) = b.byte ∷ (bytes bs ++ items true is)
items true (run b bs ∷ is) = 46 ∷ b.byte ∷ (bytes bs ++ items true is)

abbrev pub signed : Sign → List ℕ → List ℕ
signed none w = w
signed amp w = 38 ∷ w
signed plus w = 43 ∷ w

abbrev pub spell_block : Block → List ℕ
spell_block b = signed b.sign (items false (b.first ∷ b.rest))

-- each further block behind a comma
abbrev pub spell_more : List Block → List ℕ
spell_more [] = []
spell_more (b ∷ bs) = 44 ∷ (spell_block b ++ spell_more bs)

abbrev pub spell : Tree → List ℕ
spell t = spell_block t.block ++ spell_more t.blocks

-- a text is a notation if some tree spells it
abbrev pub Notation : List ℕ → Type 0
Notation w = (t : Tree) × (spell t ≡ w)

-- it goes on if some notation begins with it
abbrev pub GoesOn : List ℕ → Type 0
GoesOn w = (v : List ℕ) × Notation (w ++ v)

-- the places written for a change: none for a cross
abbrev pub written : Item → List ℕ
written dash = []
written ex = []
written (run b bs) = named b.byte ∷ map (λ (x : Bell). named x.byte) bs

-- a block with `&` is followed by its changes except the last, backwards
abbrev pub doubled : Sign → List (List ℕ) → List (List ℕ)
doubled none cs = cs
doubled plus cs = cs
doubled amp cs = cs ++ drop 1 (reverse cs)

abbrev pub block_changes : Block → List (List ℕ)
block_changes b = doubled b.sign (map written (b.first ∷ b.rest))

abbrev pub more_changes : List Block → List (List ℕ)
more_changes [] = []
more_changes (b ∷ bs) = block_changes b ++ more_changes bs

-- all changes as written, in the order in which they are rung
abbrev pub in_order : Tree → List (List ℕ)
in_order t = block_changes t.block ++ more_changes t.blocks
