use Rattle.std.proofs.Common.{◌≤◌}
use Rattle.resolver.specs.Parts.{AreConnected}
use Rattle.resolver.proofs.resolver_opening.connect_all.Given as goal

abbrev pub invariant-loop : goal.invariant-loop
invariant-loop l = record {
  connected : AreConnected l.capacity l.counter l.all_lanes.items l.clients.items;
  room_all_lanes : l.proxies ≤ l.all_lanes.cap;
  room_clients : l.proxies ≤ l.clients.cap;
}
