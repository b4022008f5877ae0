use Rattle.std.proofs.Common.{◌≡◌, ◌-◌, ◌^◌, min, take, drop}
use Rattle.sheets.proofs.words.number.Given as goal
use Rattle.std.specs.List.{list_all}
use Rattle.sheets.specs.Words.{is_digit, value}

abbrev pub invariant-loop-byte : goal.invariant-loop-byte
invariant-loop-byte l = (list_all is_digit l.text ≡ list_all is_digit (drop l.byte-index l.text)) × (l.number ≡ min (value (take l.byte-index l.text)) (2 ^ 64 - 1))
