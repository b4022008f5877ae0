use Rattle.std.proofs.Common.{codes, rules}
use Rattle.sheets.proofs.Reading.{reads}
use Rattle.trace.proofs.Saying.{known_lend, known_enter}
use Rattle.trace.proofs.command.known.Goals as goal

pub returns-in-lend : goal.returns-in-lend
returns-in-lend c = let word = c.args.word.now in known_lend word c.args.arguments.now c.lend.result (reads word (codes "lend") (search rules)) c.lend.ensures

pub returns-in-enter : goal.returns-in-enter
returns-in-enter c = let word = c.args.word.now in known_enter word c.args.arguments.now c.enter.result (reads word (codes "enter") (search rules)) c.enter.ensures
