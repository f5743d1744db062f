use Rattle.std.proofs.Common.{◌≡◌, true}
use Rattle.std.specs.Prelude.{◌↔◌}
use Rattle.resolver.proofs.Settling.{AreSettled, AllTaken}
use Rattle.resolver.proofs.all_lanes.settle.Given as goal

abbrev pub invariant-loop-proxy : goal.invariant-loop-proxy
invariant-loop-proxy l = record {
  settled : AreSettled l.proxy l.fn.all_lanes l.fn.clients l.all_lanes l.clients;
  taken : (l.all_taken ≡ true) ↔ AllTaken l.proxy l.fn.all_lanes l.fn.clients;
}
