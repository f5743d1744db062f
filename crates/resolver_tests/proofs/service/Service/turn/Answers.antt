use Rattle.resolver.proofs.callers.Later.{clients_same, AreClients-later}
use Rattle.resolver_tests.proofs.service.Service.turn.Goals as goal

pub invariant_of-self : goal.invariant_of-self
invariant_of-self c =
    let s = c.args.self.now in
    record {
      same_lanes =
          AreClients-later s.resolver.lanes c.turn.new.self.lanes s.clients.items s.clients.items s.same_lanes
          c.turn.ensures.turns.steps.lanes (clients_same s.clients.items);
    }
