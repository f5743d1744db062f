use Rattle.std.proofs.Common.{◌<◌, refl, ◌∙◌, arith}
use Rattle.std.proofs.lemmas.Result.{err_from_is_err_and}
use Rattle.batches_tasks.specs.Lines.{BecomesFrame}
use Rattle.batches_tasks.specs.Failing.{FailsLine}
use Rattle.batches_tasks.specs.declared.failure.Failure.TheVariants.{Memory}
use Rattle.batches_tasks.proofs.callers.Reporting.{reports_none, reports_then}
use Rattle.batches_tasks.proofs.Turning.{nothing_yet, one_more, at_the_end, stops}
use Rattle.batches_tasks.proofs.encoder.encode.Goals as goal

pub loop-number-init : goal.loop-number-init
loop-number-init g c = (
  nothing_yet (BecomesFrame c.args.kind) (g.R.Read.remaining c.args.reader.now) (g.W.Sink.given c.args.writer.now),
  refl,
  refl,
  reports_none (g.E.Sink.given c.args.error.now) (g.E.Sink.failures c.args.error.now),
  λ none. refl,
)

pub returns-in_err-length-clause-refused : goal.returns-in_err-length-clause-refused
returns-in_err-length-clause-refused g c =
    let p = err_from_is_err_and c.from_residual.result c.from_residual.ensures.1 in
    rw (p.1, p.2) (λ not_write.
    stops (BecomesFrame c.args.kind) (FailsLine c.args.kind) (g.R.Read.remaining c.args.reader.now)
    (g.R.Read.remaining c.loop-number.reader) (g.W.Sink.given c.args.writer.now) (g.W.Sink.given c.loop-number.writer)
    (g.W.Sink.given c.encode_next.new.writer) c.loop-number.number c.in_err-length.field-0.0 c.loop-number.invariant.0
    (c.in_err-length.ensures.refused not_write) c.in_err-length.ensures.fails)

pub returns-then-length-eq0-clause-turned : goal.returns-then-length-eq0-clause-turned
returns-then-length-eq0-clause-turned g c =
    let over = c.in_ok-length.ensures.end c.if-length-eq0.true in
    at_the_end (BecomesFrame c.args.kind) (g.R.Read.remaining c.args.reader.now) (g.R.Read.remaining c.loop-number.reader)
    (g.W.Sink.given c.args.writer.now) (g.W.Sink.given c.loop-number.writer) (g.W.Sink.given c.encode_next.new.writer)
    c.loop-number.number c.loop-number.invariant.0 over.0 over.1

pub loop-number-preserved : goal.loop-number-preserved
loop-number-preserved g c =
    let some : 0 < c.in_ok-length.length = omega (arith, c.if-length-eq0.false) in
    let step = c.in_ok-length.ensures.line some in (
      one_more (BecomesFrame c.args.kind) (g.R.Read.remaining c.args.reader.now) (g.R.Read.remaining c.loop-number.reader)
          (g.R.Read.remaining c.encode_next.new.reader) (g.W.Sink.given c.args.writer.now)
          (g.W.Sink.given c.loop-number.writer) (g.W.Sink.given c.encode_next.new.writer) c.loop-number.number
          step.0 step.1 c.loop-number.invariant.0 step.2 step.3 step.4,
      c.in_ok-length.ensures.ok ∙ c.loop-number.invariant.1,
      c.advance.ensures.length ∙ c.loop-number.invariant.2,
      reports_then (g.E.Sink.given c.args.error.now) (g.E.Sink.given c.loop-number.error) (g.E.Sink.given c.advance.new.error)
          (g.E.Sink.failures c.args.error.now) (g.E.Sink.failures c.loop-number.error) (g.E.Sink.failures c.advance.new.error)
          c.loop-number.invariant.3 c.advance.ensures.reported,
      λ none. c.advance.ensures.quiet (c.loop-number.invariant.2 ∙ none) ∙ c.loop-number.invariant.4 none,
    )

pub returns-clause-refused : goal.returns-clause-refused
returns-clause-refused g c not_write =
    stops (BecomesFrame c.args.kind) (FailsLine c.args.kind) (g.R.Read.remaining c.args.reader.now)
    (g.R.Read.remaining c.loop-number.reader) (g.W.Sink.given c.args.writer.now) (g.W.Sink.given c.loop-number.writer)
    (g.W.Sink.given c.loop-number.writer) c.loop-number.number Memory c.loop-number.invariant.0 refl tt
