use Rattle.std.proofs.Common.{ap, sym, subst, ◌∙◌, Vec, Global}
use Rattle.std.specs.Prelude.{Option}
use Rattle.keyspace.specs.declared.answer.Answer.{Answer}
use Rattle.keyspace.specs.declared.batch.Batch.{Batch}
use Rattle.lane.specs.Lane.{PortView, IntakeView, PortContinues, IntakeContinues, HasEnded}
use Rattle.replay_output.specs.declared.line.Line.{Line}
use Rattle.replay_workers.specs.Worker.{LeavesLane, fault_of, unsent_of}
use Rattle.replay_workers.proofs.callers.Ending.{keeps_moved, batches_moved}
use Rattle.replay_workers.proofs.Keeping.{inbox_continues}
use Rattle.replay_workers.proofs.worker.work_over.Goals as goal

pub returns-clause-worked : goal.returns-clause-worked
returns-clause-worked g c =
    let made = c.new-worker.ensures in
    let sent = c.send_batches-end.ensures in
    let closed = c.close.ensures in
    let done = c.finish.ensures in
    let first = c.new-worker.result.inbox in
    let after = c.send_batches-end.new.self.inbox in
    let last = c.close.new.self.inbox in
    let end = c.send_batches-end.result in
    let given = c.args.client in
    let finished = c.finish.result in
    let goes = inbox_continues first after last sent.inbox closed.inbox in
    let moved =
    batches_moved g.B.Batches.gives g.B.Batches.is_at_end g.B.Batches.is_at_fault c.args.batches.now
    first.ends.requests.sent given.requests.sent after.ends.requests.sent finished.client.requests.sent (fault_of end)
    finished.fault (unsent_of end) finished.unsent
    (ap (λ (r : PortView Batch). r.sent) made.requests)
    (sym (ap (λ (r : PortView Batch). r.sent) done.requests ∙ closed.nothing_sent)) (sym done.fault) (sym done.unsent)
    sent.sent.0 in
    record {
      client = record {
        requests =
            subst (λ (r : PortView Batch). PortContinues r finished.client.requests) made.requests
            (subst (λ (r : PortView Batch). PortContinues first.ends.requests r) (sym done.requests) goes.ends.requests);
        replies =
            subst (λ (r : IntakeView Answer). IntakeContinues r finished.client.replies) made.replies
            (subst (λ (r : IntakeView Answer). IntakeContinues first.ends.replies r) (sym done.replies) goes.ends.replies);
      };
      sends = moved;
      kept = sent.sent.1;
      keeps =
          keeps_moved last.style c.args.assignment.style last.proxy c.args.assignment.proxy given.replies.taken
          last.ends.replies.taken finished.client.replies.taken last.lines.items finished.lines.items last.lost finished.lost
          (goes.style ∙ made.style) (goes.proxy ∙ made.proxy)
          (sym (ap (λ (r : IntakeView Answer). r.taken) done.replies)) (sym (ap (λ (l : Vec Line Global). l.items) done.lines)) (sym done.lost)
          (goes.lines given.replies.taken made.lines);
      leaves =
          subst (λ (u : Option Batch). LeavesLane given.requests.closed finished.client.requests u) (sym done.unsent)
          (subst (λ (r : PortView Batch). LeavesLane given.requests.closed r (unsent_of end)) (sym done.requests)
          (closed.leaves given.requests.closed (sent.closed_stays ∙ ap (λ (r : PortView Batch). r.closed) made.requests)));
      ended = subst (λ (r : IntakeView Answer). HasEnded r) (sym done.replies) closed.ended;
    }
