-- The cells of a rank table, one for each code below its reach. The last entry stands in the table itself; the cell of its code is not looked at.
use Rattle.std.specs.Prelude.{ℕ, zero, suc, ◌-◌, Bool, true, false, cond, ◌&&◌, List, [], ◌∷◌, ◌++◌, Some, None, Option, ◌==◌, nat_lt, slice_index_or, slice_set}
use Rattle.registers.specs.Entries.{Entry}
use Rattle.registers.specs.declared.rank.cell.Cell.{Cell}
use Rattle.registers.specs.declared.rank.cell.Last.{Last}
use Rattle.registers.specs.declared.rank.cell.Link.{Link}
use Rattle.registers.specs.declared.rank.cell.Link.TheVariants.{Free, First, After}

abbrev pub cell_at : List Cell → ℕ → Cell
cell_at cs k = slice_index_or cs k (record { mark = 0; link = Free })

abbrev pub is_taken : Link → Bool
is_taken Free = false
is_taken First = true
is_taken (After k) = true

-- the entries up to the one that a link leads to, n of them
unfoldable pub trail : List Cell → ℕ → Link → List Entry
trail cs zero l = []
trail cs (suc n) Free = []
trail cs (suc n) First = []
trail cs (suc n) (After k) = trail cs n (cell_at cs k).link ++ record { code = k; mark = (cell_at cs k).mark } ∷ []

-- a link leads through n cells of the first r, all of them taken, to the first entry
unfoldable pub chained : List Cell → ℕ → ℕ → Link → Bool
chained cs r n Free = false
chained cs r zero First = true
chained cs r (suc n) First = false
chained cs r zero (After k) = false
chained cs r (suc n) (After k) = nat_lt k r && chained cs r n (cell_at cs k).link

-- whether a code is in a list of entries
abbrev pub among : ℕ → List Entry → Bool
among k [] = false
among k (e ∷ es) = cond (e.code == k) true (among k es)

-- the cells with the last entry in its own
abbrev pub settled : List Cell → Option Last → List Cell
settled cs None = cs
settled cs (Some l) = slice_set cs l.code l.cell

-- the link that the next entry will have
abbrev pub end : Option Last → Link
end None = First
end (Some l) = After l.code

-- how many entries there are
abbrev pub number : Option Last → ℕ
number None = 0
number (Some l) = l.count

-- the entry that a link leads to, read from its own cell, where there are n with the one after it
abbrev pub led_to : List Cell → ℕ → Link → Option Last
led_to cs n Free = None
led_to cs n First = None
led_to cs n (After k) = Some (record { code = k; cell = cell_at cs k; count = n - 1 })

-- the entry before the last one
abbrev pub previous : List Cell → Option Last → Option Last
previous cs None = None
previous cs (Some l) = led_to cs l.count l.cell.link

abbrev pub rank_entries : List Cell → Option Last → List Entry
rank_entries cs last = trail (settled cs last) (number last) (end last)
