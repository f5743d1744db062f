use Rattle.std.proofs.Common.{◌≡◌, None, []}
use Rattle.resolver.specs.Core.{Continues}
use Rattle.resolver.specs.Lanes.{Each, LanesContinue}
use Rattle.resolver.specs.Resolver.{IsResolving, StandsOver}
use Rattle.replay_workers.specs.Occupied.{IsMeasured}
use Rattle.replay_workers.specs.Stops.{IsAccountedFor}
use Rattle.replay_workers.proofs.workers_run.turn_to_end.Given as goal

abbrev pub invariant-loop : goal.invariant-loop
invariant-loop g l = record {
  resolving : IsResolving l.fn.resolver → IsResolving l.resolver;
  accounted : IsAccountedFor l.fn.resolver → IsAccountedFor l.resolver;
  measured :
      StandsOver l.fn.resolver [] → l.fn.resolver.core.stop ≡ None → g.O.Observer.has_seen l.fn.observer []
      → IsMeasured (g.O.Observer.has_seen l.observer) l.occupancy l.resolver;
  setting : g.O.Observer.setting l.observer ≡ g.O.Observer.setting l.fn.observer;
  continues : Continues l.fn.resolver.core l.resolver.core;
  lanes : Each (λ _ l m. LanesContinue l m) l.fn.resolver.lanes l.resolver.lanes;
}
