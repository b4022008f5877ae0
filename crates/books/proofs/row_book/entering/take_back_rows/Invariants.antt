use Rattle.std.proofs.Common.{◌≡◌}
use Rattle.books.specs.Ringing.{without}
use Rattle.books.proofs.row_book.entering.take_back_rows.Given as goal

abbrev pub invariant-loop : goal.invariant-loop
invariant-loop g l = g.R.Register.shelf l.register ≡ without l.counter (g.R.Register.shelf l.initial.register)
