use Rattle.std.proofs.Common.{◌≡◌, List, ◌++◌}
use Rattle.std.specs.Prelude.{None}
use Rattle.keyspace.specs.declared.batch.Batch.{Batch}
use Rattle.lane.specs.Lane.{PortContinues}
use Rattle.wire.specs.Batches.{GivesEach}
use Rattle.replay_stream.proofs.sender.Sender.send_batches.Given as goal

abbrev pub invariant-loop : goal.invariant-loop
invariant-loop g l = record {
  requests : PortContinues l.fn.self.requests l.self.requests;
  fresh : g.B.Batches.refusal l.batches ≡ None;
  sent : (batches : List Batch) × (l.self.requests.sent ≡ l.fn.self.requests.sent ++ batches)
      × GivesEach g.B.Batches.gives l.fn.batches l.batches batches;
}
