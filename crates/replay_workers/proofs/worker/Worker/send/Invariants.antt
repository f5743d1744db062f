use Rattle.std.proofs.Common.{◌≡◌}
use Rattle.replay_workers.specs.Inbox.{InboxContinues}
use Rattle.replay_workers.proofs.worker.Worker.send.Given as goal

abbrev pub invariant-loop : goal.invariant-loop
invariant-loop g l = record {
  inbox : InboxContinues l.fn.self.inbox l.self.inbox;
  sent : l.self.inbox.ends.requests.sent ≡ l.fn.self.inbox.ends.requests.sent;
  closed : l.self.inbox.ends.requests.closed ≡ l.fn.self.inbox.ends.requests.closed;
  waiting : l.waiting ≡ l.fn.batch;
}
