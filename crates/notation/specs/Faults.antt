-- The faults of a notation text, which of them comes first, and what a text without fault means.
use Rattle.std.specs.Prelude.{◌≡◌, ℕ, ◌+◌, ◌-◌, ◌<◌, ◌≤◌, Bool, false, ◌⊎◌, List, [], ◌∷◌, map, length, take, ◌≢◌, slice_index}
use Rattle.rows.specs.Text.{named}
use Rattle.notation.specs.Causes.{number}
use Rattle.notation.specs.Changes.{ascending, made, can_ring}
use Rattle.notation.specs.Grammar.{Item, Block, Tree, items, spell, Notation, GoesOn, written, in_order}
use Rattle.notation.specs.declared.fault.Fault.{Fault}
use Rattle.notation.specs.declared.fault.Fault.TheVariants.{Byte, Early, Places, Unrung, Many}

abbrev pub final : {A : Type 0} → A → List A → A
final x [] = x
final x (y ∷ ys) = final y ys

abbrev pub last_block : Tree → Block
last_block t = final t.block t.blocks

abbrev pub last_item : Tree → Item
last_item t = final (last_block t).first (last_block t).rest

-- how many bytes a change takes
abbrev pub width : Item → ℕ
width i = length (items Bool.false (i ∷ []))

-- a change that is written up to j is complete there: a cross always, a run where no bell character follows
abbrev pub Complete : List ℕ → ℕ → Item → Type 0
Complete t j Item.dash = Unit {0}
Complete t j Item.ex = Unit {0}
Complete t j (Item.run b bs) = (j ≡ length t) ⊎ (named (slice_index t j) ≡ 0)

-- the tree spells the bytes before j, and its last change, complete there, begins at p
pub record ChangeAt (t : List ℕ) (j p : ℕ) (tree : Tree) : Type 0 where
  pub inside : j ≤ length t
  pub spells : spell tree ≡ take j t
  pub complete : Complete t j (last_item tree)
  pub begins : p + width (last_item tree) ≡ j

-- the tree spells the bytes before j, where its last block is whole; that block begins at s
pub record BlocksAt (t : List ℕ) (j s : ℕ) (tree : Tree) : Type 0 where
  pub inside : j ≤ length t
  pub spells : spell tree ≡ take j t
  pub whole : (j ≡ length t) ⊎ (slice_index t j ≡ 44)
  pub before : s ≤ j
  pub begins : (s ≡ 0) ⊎ ((0 < s) × (slice_index t (s - 1) ≡ 44))
  pub no_comma : (k : ℕ) → s ≤ k → k < j → slice_index t k ≢ 44

-- the fault f of the text t shows when j bytes are read
abbrev pub Shows : ℕ → List ℕ → ℕ → Fault → Type 0
-- some notation begins with the bytes before k, and none with the byte at k added
Shows n t j (Byte k) = (k < length t) × (j ≡ k + 1) × GoesOn (take k t) × (GoesOn (take (k + 1) t) → ⊥)
-- the text ends at k, where every notation that begins so goes on
Shows n t j (Early k) = (k ≡ length t) × (j ≡ k) × GoesOn t × (Notation t → ⊥)
-- the change that begins at p has a place above n, or places not ascending
Shows n t j (Places p) = (x : Tree) × ChangeAt t j p x × (ascending n (written (last_item x)) ≡ false)
-- the change that begins at p cannot be rung
Shows n t j (Unrung p) = (x : Tree) × ChangeAt t j p x × (can_ring (made n (written (last_item x))) ≡ false)
-- with the block that begins at s there are more than 64 changes
Shows n t j (Many s) = (x : Tree) × BlocksAt t j s x × (64 < length (in_order x))

-- f comes first: each other fault shows later, or with the same byte and has no smaller number
pub record First (n : ℕ) (t : List ℕ) (f : Fault) : Type 0 where
  pub read : ℕ
  pub shows : Shows n t read f
  pub first : (j : ℕ) (g : Fault) → Shows n t j g → (read < j) ⊎ ((j ≡ read) × (number f ≤ number g))

-- the text is a notation without fault, and these are its changes on n bells
pub record Right (n : ℕ) (t : List ℕ) (cs : List (List Bool)) : Type 0 where
  pub tree : Tree
  pub spells : spell tree ≡ t
  pub means : cs ≡ map (made n) (in_order tree)
  pub faultless : (j : ℕ) (g : Fault) → Shows n t j g → ⊥
