use Rattle.std.proofs.Common.{ap, ◌∙◌}
use Rattle.books.proofs.Entering.{taken_more}
use Rattle.books.proofs.row_book.entering.take_back_rows.Goals as goal
use Rattle.registers.specs.Entries.{taken}

pub loop-preserved : goal.loop-preserved
loop-preserved g c = c.take_back.ensures.after ∙ ap taken c.loop.invariant ∙ taken_more (g.R.Register.shelf c.args.register.now) c.loop.counter
