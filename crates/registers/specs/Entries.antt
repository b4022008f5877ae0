-- The list of entries of a register, in the order of entering, and what each call makes of it.
use Rattle.std.specs.Prelude.{◌≡◌, ℕ, ◌<◌, cond, List, [], ◌∷◌, ◌++◌, length, Some, None, Ok, Err, Option, Result, ◌==◌, nat_le, slice_index_or}
use Rattle.registers.specs.declared.entered.Entered.{Entered}
use Rattle.registers.specs.declared.entered.Entered.TheVariants.{Added, Held}
use Rattle.registers.specs.declared.fault.RegisterFault.{RegisterFault}
use Rattle.registers.specs.declared.fault.RegisterFault.TheVariants.{Reach, Full, Empty}

pub record Entry : Type 0 where
  pub code : ℕ
  pub mark : ℕ

-- a register at one time: what its codes are below, how many entries it has room for, and its entries
pub record Shelf : Type 0 where
  pub reach : ℕ
  pub capacity : ℕ
  pub entries : List Entry

-- the shelf with other entries
abbrev pub with_entries : List Entry → Shelf → Shelf
with_entries es s = record { reach = s.reach; capacity = s.capacity; entries = es }

abbrev pub code_at : List Entry → ℕ → ℕ
code_at es i = (slice_index_or es i (record { code = 0; mark = 0 })).code

-- entries with equal codes are the same entry
abbrev pub NoCodeTwice : List Entry → Type 0
NoCodeTwice es = (i j : ℕ) → i < length es → j < length es → code_at es i ≡ code_at es j → i ≡ j

-- the mark of a code, if it is in the list
abbrev pub marked : ℕ → List Entry → Option ℕ
marked c [] = None
marked c (e ∷ es) = cond (e.code == c) (Some e.mark) (marked c es)

-- what entering a code answers: not below the reach, held, no room, added
abbrev pub room : ℕ → List Entry → Result Entered RegisterFault
room capacity es = cond (nat_le capacity (length es)) (Err Full) (Ok Added)

abbrev pub held : Option ℕ → Result Entered RegisterFault → Result Entered RegisterFault
held (Some m) r = Ok (Held m)
held None r = r

abbrev pub entering : Shelf → ℕ → Result Entered RegisterFault
entering s c = cond (nat_le s.reach c) (Err Reach) (held (marked c s.entries) (room s.capacity s.entries))

-- the entries after that answer: only an added entry changes them
abbrev pub appended : Result Entered RegisterFault → Entry → List Entry → List Entry
appended (Ok Added) e es = es ++ e ∷ []
appended (Ok (Held m)) e es = es
appended (Err f) e es = es

-- the shelf after that answer
abbrev pub entered : Result Entered RegisterFault → Entry → Shelf → Shelf
entered r e s = with_entries (appended r e s.entries) s

-- the mark of the last entry
abbrev pub last_mark : List Entry → Result ℕ RegisterFault
last_mark [] = Err Empty
last_mark (e ∷ []) = Ok e.mark
last_mark (e ∷ (d ∷ es)) = last_mark (d ∷ es)

-- the entries without the last one
abbrev pub without_last : List Entry → List Entry
without_last [] = []
without_last (e ∷ []) = []
without_last (e ∷ (d ∷ es)) = e ∷ without_last (d ∷ es)

-- what taking back answers, and the shelf after it
abbrev pub taking : Shelf → Result ℕ RegisterFault
taking s = last_mark s.entries

abbrev pub taken : Shelf → Shelf
taken s = with_entries (without_last s.entries) s
