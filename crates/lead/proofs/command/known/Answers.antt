use Rattle.std.proofs.Common.{codes, rules}
use Rattle.lead.proofs.Saying.{known_stage, known_method, known_call}
use Rattle.lead.proofs.command.known.Goals as goal
use Rattle.sheets.proofs.Reading.{reads}

pub returns-in-stage : goal.returns-in-stage
returns-in-stage c = let word = c.args.word.now in known_stage word c.args.arguments.now c.stage.result (reads word (codes "stage") (search rules)) c.stage.ensures

pub returns-in-method : goal.returns-in-method
returns-in-method c = let word = c.args.word.now in known_method word c.args.arguments.now c.method.result (reads word (codes "method") (search rules)) c.method.ensures

pub returns-in-call : goal.returns-in-call
returns-in-call c = let word = c.args.word.now in known_call word c.args.arguments.now c.call.result (reads word (codes "call") (search rules)) c.call.ensures
