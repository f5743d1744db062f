use Rattle.archcaraway_c.proofs.NextOwed.{OwesNoneBelow}
use Rattle.archcaraway_c.proofs.core_object.CoreObject.next.Given as goal

abbrev pub invariant-loop-proxy : goal.invariant-loop-proxy
invariant-loop-proxy l = OwesNoneBelow l.proxy l.self
