use Rattle.std.proofs.Common.{map, ◌∙◌}
use Rattle.books.proofs.Entering.{enters_more, enters_not}
use Rattle.books.proofs.Placing.{rows_enough, lead_row}
use Rattle.books.proofs.row_book.entering.enter_rows.Goals as goal
use Rattle.books.specs.Forms.{shape}
use Rattle.rows.specs.Rows.{times}

pub slice_bounds-rung-items-end : goal.slice_bounds-rung-items-end
slice_bounds-rung-items-end g c = rows_enough c.args.form.now c.rows.result.now c.rows.ensures

pub loop-j-preserved : goal.loop-j-preserved
loop-j-preserved g c =
    let form = c.args.form.now in
    let head = c.args.head.now.bells in
    let inv = c.loop-j.invariant in
    let row = lead_row form head c.rows.result.now c.loop-j.j c.rung-item.result c.times-row.result.bells c.rows.ensures c.loop-j-test.true c.rung-item.is c.times-row.ensures.value in
    let more = enters_more (g.R.Register.shelf c.args.register.now) (g.R.Register.shelf c.loop-j.register) c.args.place (map (times head) (shape form).rows) c.loop-j.j c.times-row.result.bells row.0 inv.0 inv.1 row.1 c.in_default.ensures.answer in
    (c.enter_row.ensures.after ∙ more.0, more.1)

pub returns-in-Err : goal.returns-in-Err
returns-in-Err g c =
    let form = c.args.form.now in
    let head = c.args.head.now.bells in
    let inv = c.loop-j.invariant in
    let row = lead_row form head c.rows.result.now c.loop-j.j c.rung-item.result c.times-row.result.bells c.rows.ensures c.loop-j-test.true c.rung-item.is c.times-row.ensures.value in
    rw (c.take_back_rows.ensures, c.enter_row.ensures.after)
    (enters_not (g.R.Register.shelf c.args.register.now) (g.R.Register.shelf c.loop-j.register) c.args.place (map (times head) (shape form).rows) c.loop-j.j c.times-row.result.bells row.0 inv.0 inv.1 row.1 c.in-Err.fault c.in-Err.ensures.answer)
