use Rattle.std.proofs.Common.{ℕ, ◌+◌, length, Some, None, Option}
use Rattle.trace.proofs.script.Script.answer.Given as goal
use Rattle.trace.specs.declared.command.Command.{Command}

-- the command that comes next and the lines behind it
abbrev pub ahead : Option Command → ℕ → ℕ
ahead None lines = lines
ahead (Some c) lines = lines + 1

abbrev pub decreases-loop-next : goal.decreases-loop-next
decreases-loop-next l = ahead l.next (length l.self.lines.rest.now)
