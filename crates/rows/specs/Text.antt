-- How a row is written: one bell character for each of its bells.
use Rattle.std.specs.Prelude.{ℕ, ◌+◌, ◌-◌, cond, ◌&&◌, List, map, take, ◌==◌, nat_le}

-- the bell, or the place, that a byte names: `1` to `9`, `0` for ten, `E` for eleven, `T` for twelve; 0 if it names none
abbrev pub named : ℕ → ℕ
named b = cond (nat_le 49 b && nat_le b 57) (b - 48) (cond (b == 48) 10 (cond (b == 69) 11 (cond (b == 84) 12 0)))

-- the character of a bell
abbrev pub character : ℕ → ℕ
character v = cond (nat_le v 9) (v + 48) (cond (v == 10) 48 (cond (v == 11) 69 84))

-- the text of a row on n bells
abbrev pub spelled : ℕ → List ℕ → List ℕ
spelled n a = map character (take n a)
