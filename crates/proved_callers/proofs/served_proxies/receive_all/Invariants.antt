use Rattle.std.proofs.Common.{[], ◌∷◌}
use Rattle.keyspace.specs.declared.TheConstants.{WINDOW}
use Rattle.proved_callers.specs.Served.{AreServing}
use Rattle.proved_callers.proofs.served_proxies.receive_all.Given as goal

abbrev pub invariant-loop : goal.invariant-loop
invariant-loop g l = AreServing WINDOW l.resolver l.clients (g.sent.0 ∷ g.sent.1 ∷ []) (l.first.items ∷ l.second.items ∷ [])
