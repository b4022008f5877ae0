use Rattle.std.proofs.Common.{refl, arith}
use Rattle.sheets.proofs.Parting.{not_blank}
use Rattle.trace.proofs.Saying.{says_word, says_words}
use Rattle.trace.proofs.command.parse.Goals as goal

pub returns-in-None : goal.returns-in-None
returns-in-None c =
    let line = c.args.line.now in
    says_word line c.args.line c.alone.result c.unwrap_or-in-None.result refl c.in-None.ensures (not_blank line (omega arith) (λ h. omega arith)) c.alone.ensures c.unwrap_or-in-None.ensures

pub returns-in-Some : goal.returns-in-Some
returns-in-Some c =
    let line = c.args.line.now in
    says_words line c.in-Some.word c.in-Some.arguments c.in-Some.ensures c.known.result c.unwrap_or.result (not_blank line (omega arith) (λ h. omega arith)) c.known.ensures c.unwrap_or.ensures
