use Rattle.std.proofs.Common.{ap, refl, sym, subst, ◌∙◌}
use Rattle.keyspace.specs.declared.batch.Batch.{Batch}
use Rattle.lane.specs.Lane.{PortContinues, PortView}
use Rattle.replay_workers.specs.Worker.{fault_of, unsent_of}
use Rattle.replay_workers.proofs.callers.Ending.{sends_moved}
use Rattle.replay_stream.proofs.Passing.{port_closed}
use Rattle.replay_stream.proofs.sender.send_all.Goals as goal

pub returns : goal.returns
returns g c =
    let sent = c.send_file-end.ensures in
    let done = c.finish.ensures in
    let end = c.send_file-end.result in
    let given = c.args.requests in
    let after = c.send_file-end.new.self.requests in
    let finished = c.finish.result in
    let closed = done.requests ∙ c.close.ensures.closed in
    record {
      sent = record {
        requests = subst (λ (r : PortView Batch). PortContinues given r) (sym closed) (port_closed given after sent.requests);
        sends =
            sends_moved c.args.reports (g.S.Source.remaining c.args.reader) (g.S.Source.remaining c.args.reader) given.sent
            given.sent after.sent finished.requests.sent (fault_of end) finished.fault (unsent_of end) finished.unsent
            refl refl (sym (ap (λ (r : PortView Batch). r.sent) closed)) (sym done.fault) (sym done.unsent) sent.sent;
        closed = ap (λ (r : PortView Batch). r.closed) closed;
      };
    }
