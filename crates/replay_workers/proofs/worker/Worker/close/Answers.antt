use Rattle.std.proofs.Common.{sym, subst, ◌∙◌, refl}
use Rattle.keyspace.specs.declared.batch.Batch.{Batch}
use Rattle.lane.specs.Lane.{PortView}
use Rattle.replay_workers.specs.Worker.{LeavesLane, unsent_of}
use Rattle.replay_workers.proofs.callers.Ending.{ended_first, left_closed, left_open}
use Rattle.replay_workers.proofs.Keeping.{inbox_continues, with_ends}
use Rattle.replay_workers.proofs.worker.Worker.close.Goals as goal

pub returns-then-is_cut_short-clause-leaves : goal.returns-then-is_cut_short-clause-leaves
returns-then-is_cut_short-clause-leaves g c =
    let cut = sym c.is_cut_short.ensures.cut_short ∙ c.if-is_cut_short.true in
    λ was same. left_open c.args.end.now was c.args.self.now.inbox.ends.requests cut same

pub returns-then-is_cut_short-clause-ended : goal.returns-then-is_cut_short-clause-ended
returns-then-is_cut_short-clause-ended g c =
    let ends = c.args.self.now.inbox.ends in
    ended_first c.args.end.now ends.requests ends.replies (sym c.is_cut_short.ensures.cut_short ∙ c.if-is_cut_short.true)
    c.requires.gives_up

pub returns-clause-inbox : goal.returns-clause-inbox
returns-clause-inbox g c =
    let old = c.args.self.now.inbox in
    let closed = record old { ends = c.close.new.self } in
    inbox_continues old closed c.take_to_end.new.self (with_ends old closed c.close.ensures.ends c.close.ensures.replies refl)
    c.take_to_end.ensures.inbox

pub returns-clause-leaves : goal.returns-clause-leaves
returns-clause-leaves g c =
    let ends = c.args.self.now.inbox.ends in
    let not_cut = sym c.is_cut_short.ensures.cut_short ∙ c.if-is_cut_short.false in
    let now = c.take_to_end.ensures.nothing_sent.requests ∙ c.close.ensures.closed in
    λ was same.
    subst (λ (r : PortView Batch). LeavesLane was r (unsent_of c.args.end.now)) (sym now)
    (left_closed c.args.end.now was ends.requests ends.replies not_cut same c.requires.gives_up)
