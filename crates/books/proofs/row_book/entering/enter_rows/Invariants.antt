use Rattle.std.proofs.Common.{◌≡◌, map, take}
use Rattle.books.specs.Forms.{shape}
use Rattle.books.specs.Ringing.{with_placed, Absent}
use Rattle.rows.specs.Rows.{times}
use Rattle.books.proofs.row_book.entering.enter_rows.Given as goal

abbrev pub invariant-loop-j : goal.invariant-loop-j
invariant-loop-j g l =
    let new = map (times l.head.bells) (shape l.form).rows in
    let start = g.R.Register.shelf l.initial.register in
    (g.R.Register.shelf l.register ≡ with_placed l.place (take l.j new) start) × Absent start.entries l.place new l.j
