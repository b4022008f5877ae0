use Rattle.std.proofs.Common.{◌≡◌, ◌+◌, ◌-◌, length, take}
use Rattle.books.proofs.play.take_back_to.Given as goal

abbrev pub invariant-loop : goal.invariant-loop
invariant-loop g l =
    (g.B.Book.forms l.book ≡ g.B.Book.forms l.initial.book) × (g.B.Book.limit l.book ≡ g.B.Book.limit l.initial.book)
    × (length (g.B.Book.leads l.book) + (l.counter - l.stand) ≡ length (g.B.Book.leads l.initial.book))
    × (take l.stand (g.B.Book.leads l.book) ≡ take l.stand (g.B.Book.leads l.initial.book))
    × (g.B.Book.kept l.initial.book → g.B.Book.kept l.book)
