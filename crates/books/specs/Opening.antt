-- When a book can be opened on a register of rows.
use Rattle.std.specs.Prelude.{◌≡◌, ℕ, ◌*◌, ◌≤◌, min, [], Ok, Err, Result, ◌≢◌}
use Rattle.books.specs.declared.fault.OpeningFault.{OpeningFault}
use Rattle.books.specs.declared.fault.OpeningFault.TheVariants.{Limit, Held, Small, Memory}
use Rattle.registers.specs.Entries.{Shelf}
use Rattle.rows.specs.Code.{fact}

-- a lead limit is 1 to 1,280
abbrev pub InLimits : ℕ → Type 0
InLimits m = (1 ≤ m) × (m ≤ 1280)

-- the register reaches every row on n bells, and has room for all of them or for as many as the leads can have
abbrev pub Large : ℕ → ℕ → Shelf → Type 0
Large n m s = (fact n ≤ s.reach) × (min (fact n) (64 * m) ≤ s.capacity)

-- a book with this limit can be opened on the register, if there is memory for it
abbrev pub Openable : ℕ → ℕ → Shelf → Type 0
Openable n m s = InLimits m × (s.entries ≡ []) × Large n m s

-- the first of the checks that fails; a want of memory is none of them
abbrev pub RefusedFor : ℕ → ℕ → Shelf → OpeningFault → Type 0
RefusedFor n m s Limit = InLimits m → ⊥
RefusedFor n m s Held = InLimits m × (s.entries ≢ [])
RefusedFor n m s Small = InLimits m × (s.entries ≡ []) × (Large n m s → ⊥)
RefusedFor n m s Memory = Openable n m s

-- what the checks answer
abbrev pub Obstacle : ℕ → ℕ → Shelf → Result Unit OpeningFault → Type 0
Obstacle n m s (Ok _) = Openable n m s
Obstacle n m s (Err e) = RefusedFor n m s e × (e ≢ Memory)
