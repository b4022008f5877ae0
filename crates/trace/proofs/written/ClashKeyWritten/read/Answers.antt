use Rattle.std.proofs.Common.{sym, ◌∙◌}
use Rattle.std.proofs.lemmas.Result.{err_from_is_err_and}
use Rattle.trace.proofs.Naming.{words_there, no_words, no_row, key_made}
use Rattle.trace.proofs.written.ClashKeyWritten.read.Goals as goal

pub returns-in_err-p : goal.returns-in_err-p
returns-in_err-p c =
    let p = err_from_is_err_and c.from_residual.result c.from_residual.ensures.1 in
    rw (p.1, p.2) (no_words c.args.text.now c.clash_words.result c.in_err-p.field-0.0 c.clash_words.ensures (sym c.in_err-p.was ∙ c.ok_or.ensures.value))

pub returns-in_err-row : goal.returns-in_err-row
returns-in_err-row c =
    let p = err_from_is_err_and c.from_residual-in_err-row.result c.from_residual-in_err-row.ensures.1 in
    let words = words_there c.args.text.now c.clash_words.result (c.in_ok-p.p, c.in_ok-p.q, c.in_ok-p.spelled) c.clash_words.ensures (sym c.in_ok-p.was ∙ c.ok_or.ensures.value) in
    rw (p.1, p.2) (no_row c.args.text.now c.in_ok-p.spelled.now c.in_ok-p.p c.in_ok-p.q c.in_err-row.field-0.0 words c.in_err-row.ensures)

pub returns : goal.returns
returns c =
    let words = words_there c.args.text.now c.clash_words.result (c.in_ok-p.p, c.in_ok-p.q, c.in_ok-p.spelled) c.clash_words.ensures (sym c.in_ok-p.was ∙ c.ok_or.ensures.value) in
    key_made c.args.text.now c.in_ok-p.spelled.now c.in_ok-p.p c.in_ok-p.q c.in_ok-row.row c.new.result c.ok_or-2.result words c.in_ok-row.ensures c.new.ensures c.ok_or-2.ensures.value
