-- What a register answers where a key is entered, found, taken back if it was added, and found again.
use Rattle.std.specs.Prelude.{◌≡◌, ℕ, Some, None, Ok, Err, Result}
use Rattle.registers.specs.Entries.{Shelf, marked, entering, entered, taken}
use Rattle.registers.specs.declared.entered.Entered.{Entered}
use Rattle.registers.specs.declared.entered.Entered.TheVariants.{Added, Held}
use Rattle.registers.specs.declared.fault.RegisterFault.{RegisterFault}
use Rattle.registers.specs.declared.trial.Trial.{Trial}

-- the shelf once what an enter has added is taken back
abbrev pub undone : Result Entered RegisterFault → Shelf → Shelf
undone (Ok Added) s = taken s
undone (Ok (Held m)) s = s
undone (Err f) s = s

pub record Passes (s : Shelf) (c m : ℕ) (t : Trial) : Type 0 where
  pub answer : t.entered ≡ entering s c
  pub finding : t.found ≡ marked c (entered t.entered (record { code = c; mark = m }) s).entries
  pub leaving : t.left ≡ marked c s.entries
  pub added : t.entered ≡ Ok Added → (t.found ≡ Some m) × (t.left ≡ None)
  pub held : (h : ℕ) → t.entered ≡ Ok (Held h) → (t.found ≡ Some h) × (t.left ≡ Some h)
