use Rattle.replay_workers.specs.Ends.{SendsNothing}
use Rattle.replay_workers.specs.Inbox.{InboxContinues}
use Rattle.replay_workers.proofs.inbox.Inbox.take_to_end.Given as goal

abbrev pub invariant-loop : goal.invariant-loop
invariant-loop g l = record {
  goes : InboxContinues l.fn.self l.self;
  nothing : SendsNothing l.fn.self.ends l.self.ends;
}
