use Rattle.std.proofs.Common.{◌≡◌}
use Rattle.lane.specs.Lane.{PortContinues}
use Rattle.replay_stream.proofs.sender.Sender.send.Given as goal

abbrev pub invariant-loop : goal.invariant-loop
invariant-loop g l = record {
  requests : PortContinues l.fn.self.requests l.self.requests;
  sent : l.self.requests.sent ≡ l.fn.self.requests.sent;
  waiting : l.waiting ≡ l.fn.batch;
}
