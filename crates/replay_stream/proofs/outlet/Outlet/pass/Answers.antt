use Rattle.std.proofs.Common.{ap, sym, subst}
use Rattle.keyspace.specs.declared.answer.Answer.{Answer}
use Rattle.lane.specs.Lane.{IntakeContinues, IntakeView}
use Rattle.replay_stream.specs.declared.outlet.Outlet.{Outlet}
use Rattle.replay_stream.specs.Sinks.{state_by}
use Rattle.resolver.proofs.callers.Later.{intake_same}
use Rattle.replay_stream.proofs.Passing.{passes_after, passes_nothing}
use Rattle.replay_stream.proofs.outlet.Outlet.pass.Goals as goal

pub returns-then-is_lagging-clause-passes : goal.returns-then-is_lagging-clause-passes
returns-then-is_lagging-clause-passes g c =
    let old = c.args.self.now in
    let new = c.is_lagging.new.self in
    let is = c.is_lagging.ensures.others in
    passes_nothing c.args.printer.now.style c.args.printer.now.failed (state_by g.O.Sink.given g.O.Sink.failures c.args.out.now) old new
    (subst (λ (i : IntakeView Answer). IntakeContinues old.replies i) (ap (λ (o : Outlet). o.replies) (sym is)) (intake_same old.replies))
    (ap (λ (o : Outlet). o.replies.taken) is) (ap (λ (o : Outlet). o.proxy) is) (ap (λ (o : Outlet). o.lost) is)
    c.is_lagging.ensures.passed

pub returns-in-Item-clause-passes : goal.returns-in-Item-clause-passes
returns-in-Item-clause-passes g c =
    let state = state_by g.O.Sink.given g.O.Sink.failures in
    passes_after c.args.printer.now.style c.args.printer.now.failed c.print.new.printer.failed (state c.args.out.now)
    (state c.print.new.out) c.args.self.now c.is_lagging.new.self c.print.new.self c.pass_on.new.self c.take.new.self
    c.in-Item.answer c.is_lagging.ensures.others (c.is_lagging.ensures.none c.if-is_lagging.false) c.take.ensures.takes.intake
    c.in-Item.ensures.takes.taken c.print.ensures.others c.pass_on.ensures.others c.is_lagging.ensures.passed c.pass_on.ensures.passed
    c.print.ensures.text c.print.ensures.stays c.print.ensures.lost c.print.ensures.nothing
