use Rattle.std.proofs.Common.{◌≡◌, List, ◌++◌}
use Rattle.std.specs.Prelude.{None}
use Rattle.keyspace.specs.declared.batch.Batch.{Batch}
use Rattle.wire.specs.Batches.{GivesEach}
use Rattle.replay_workers.specs.Inbox.{InboxContinues}
use Rattle.replay_workers.proofs.worker.Worker.send_batches.Given as goal

abbrev pub invariant-loop : goal.invariant-loop
invariant-loop g l = record {
  inbox : InboxContinues l.fn.self.inbox l.self.inbox;
  closed : l.self.inbox.ends.requests.closed ≡ l.fn.self.inbox.ends.requests.closed;
  fresh : g.B.Batches.refusal l.batches ≡ None;
  steady : g.B.Batches.failures l.batches ≡ g.B.Batches.failures l.fn.batches;
  sent : (batches : List Batch) × (l.self.inbox.ends.requests.sent ≡ l.fn.self.inbox.ends.requests.sent ++ batches)
      × GivesEach g.B.Batches.gives l.fn.batches l.batches batches;
}
