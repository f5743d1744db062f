use Rattle.std.proofs.Common.{arith}
use Rattle.std.proofs.lemmas.Option.{slice_get_read}
use Rattle.resolver.proofs.callers.Later.{intake_same, clients_set, lanes_same, AreClients-later}
use Rattle.resolver_tests.proofs.service.Service.send.Goals as goal

pub invariant_of-self : goal.invariant_of-self
invariant_of-self c =
    let s = c.args.self.now in
    let clients = s.clients.items in
    let client = c.index_mut.result.now in
    record {
      same_lanes =
          AreClients-later s.resolver.lanes s.resolver.lanes clients _ s.same_lanes (lanes_same s.resolver.lanes)
          (clients_set clients c.args.proxy client (record { requests = c.send.new.self; replies = client.replies })
          (slice_get_read clients s.clients.len c.args.proxy client s.clients.ok.0 (omega arith)
          c.index_mut.ensures.value)
          (record { requests = c.send.ensures.sends.port; replies = intake_same client.replies }));
    }
