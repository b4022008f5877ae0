use Rattle.trace.proofs.Naming.{words_none, words_half, no_first, no_second, words_made}
use Rattle.trace.proofs.written.clash_words.Goals as goal

pub returns-in_err-first : goal.returns-in_err-first
returns-in_err-first c = rw c.from_residual.ensures (words_none c.in_err-first.ensures)

pub returns-in_err-second : goal.returns-in_err-second
returns-in_err-second c = rw c.from_residual-in_err-second.ensures (words_half c.in_ok-first.ensures c.in_err-second.ensures)

pub returns-in_err-p : goal.returns-in_err-p
returns-in_err-p c = rw c.from_residual-in_err-p.ensures (no_first c.in_ok-first.ensures c.in_err-p.ensures)

pub returns-in_err-q : goal.returns-in_err-q
returns-in_err-q c = rw c.from_residual-in_err-q.ensures (no_second c.in_ok-first.ensures c.in_ok-second.ensures c.in_err-q.ensures)

pub returns : goal.returns
returns c = words_made c.in_ok-first.ensures c.in_ok-second.ensures c.in_ok-p.ensures c.in_ok-q.ensures
