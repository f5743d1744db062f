use Rattle.std.proofs.Common.{rules}
use Rattle.replay_workers.proofs.Keeping.{sends_on}
use Rattle.replay_workers.proofs.worker.Worker.send.Goals as goal

pub loop-preserved : goal.loop-preserved
loop-preserved g c = record {
  inbox = sends_on c.args.self.now.inbox c.loop.self.inbox c.take_all.new.self c.try_send.new.self.inbox c.loop.invariant.inbox
      c.take_all.ensures.inbox c.try_send.ensures.ends c.try_send.ensures.replies c.try_send.ensures.inbox;
  sent = search rules;
  closed = search rules;
  waiting = search rules;
}
