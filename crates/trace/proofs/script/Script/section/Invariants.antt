use Rattle.std.proofs.Common.{◌≤◌, length}
use Rattle.trace.proofs.script.Script.section.Given as goal

abbrev pub invariant-loop-line : goal.invariant-loop-line
invariant-loop-line g l = length l.lines.rest.now ≤ length l.fn.self.lines.rest.now

abbrev pub decreases-loop-line : goal.decreases-loop-line
decreases-loop-line g l = length l.lines.rest.now
