use Rattle.std.proofs.Common.{map}
use Rattle.notation.proofs.Making.{Placing}
use Rattle.notation.proofs.written.places_made.Given as goal
use Rattle.rows.specs.Text.{named}

abbrev pub invariant-loop-digit : goal.invariant-loop-digit
invariant-loop-digit l = Placing l.stage.bells (map named l.digits) l.digit-index l.made l.first l.last
