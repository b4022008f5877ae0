use Rattle.std.proofs.Common.{arith}
use Rattle.lead.proofs.Saying.{says}
use Rattle.lead.proofs.command.parse.Goals as goal
use Rattle.sheets.proofs.Parting.{not_blank}

pub returns-in-Some : goal.returns-in-Some
returns-in-Some c =
    let line = c.args.line.now in
    says line c.in-Some.word c.in-Some.arguments c.in-Some.ensures c.known.result c.unwrap_or.result (not_blank line (omega arith) (λ h. omega arith)) c.known.ensures c.unwrap_or.ensures
