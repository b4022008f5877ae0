-- How much of the lent memory a register uses, and what it leaves as it was.
use Rattle.std.specs.Borrow.{MutBor}
use Rattle.std.specs.Prelude.{◌≡◌, ℕ, min, List, length, drop}

-- what is lent beyond this many places stays unused
abbrev pub most : ℕ
most = 1048576

abbrev pub used : ℕ → ℕ
used lent = min lent most

-- the memory is as long as it was, and what is beyond use is as it was
abbrev pub Beyond : {A : Type 0} → List A → List A → Type 0
Beyond xs ys = (length ys ≡ length xs) × (drop most ys ≡ drop most xs)

-- the memory is still the one that was lent, and is as it was beyond use
pub record Kept {A : Type 0} (was now : MutBor (List A)) : Type 0 where
  pub loan : now.ghost_name ≡ was.ghost_name
  pub beyond : Beyond was.now now.now
