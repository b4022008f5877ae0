use Rattle.std.proofs.Common.{◌≡◌, vec_len}
use denote.Param.Always.{always_mut}
use Rattle.trace.proofs.memory.refill.Given as goal

abbrev pub invariant-loop : goal.invariant-loop
invariant-loop g l = (always_mut g.F.FnMut l.initial.make → always_mut g.F.FnMut l.make) × (vec_len l.list ≡ l.counter)
