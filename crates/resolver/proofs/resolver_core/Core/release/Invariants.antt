use Rattle.std.proofs.Common.{◌≡◌, None, length}
use Rattle.keyspace.specs.Run.{State}
use Rattle.resolver.specs.Core.{Given, IsIn, Continues}
use Rattle.resolver.proofs.Releasing.{Reaches}
use Rattle.resolver.proofs.resolver_core.Core.release.Given as goal

abbrev pub invariant-loop-proxy : goal.invariant-loop-proxy
invariant-loop-proxy g l = record {
  reaches : (state : State) (given : Given) → IsIn state given l.initial.self
      → Reaches l.initial.self.set.window state given l.self (g.O.Observer.has_seen l.initial.observer)
      (g.O.Observer.has_seen l.observer);
  continues : Continues l.initial.self l.self;
  still : l.self.stop ≡ None;
  setting : g.O.Observer.setting l.observer ≡ g.O.Observer.setting l.initial.observer;
}

abbrev pub decreases-loop-proxy : goal.decreases-loop-proxy
decreases-loop-proxy g l = length l.self.held
