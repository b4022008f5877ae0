-- How the answers of a register are printed.
use Rattle.std.specs.Prelude.{ℕ, List, ◌++◌, Some, None, Ok, Err, codes, decimal, Option, Result}
use Rattle.causes.specs.Shown.{cause_shown}
use Rattle.registers.specs.Causes.{cause}
use Rattle.registers.specs.declared.entered.Entered.{Entered}
use Rattle.registers.specs.declared.entered.Entered.TheVariants.{Added, Held}
use Rattle.registers.specs.declared.fault.RegisterFault.{RegisterFault}

-- an entry that is added, a mark that the key is held with, or a refusal
abbrev pub entered_shown : Result Entered RegisterFault → List ℕ
entered_shown (Ok Added) = codes "added"
entered_shown (Ok (Held mark)) = codes "held " ++ decimal mark
entered_shown (Err fault) = cause_shown (cause fault)

-- the mark that is found
abbrev pub found_shown : Option ℕ → List ℕ
found_shown (Some mark) = decimal mark
found_shown None = codes "absent"

-- the mark of what is taken back, or a refusal
abbrev pub taken_shown : Result ℕ RegisterFault → List ℕ
taken_shown (Ok mark) = decimal mark
taken_shown (Err fault) = cause_shown (cause fault)
