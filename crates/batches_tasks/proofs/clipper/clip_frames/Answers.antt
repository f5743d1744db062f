use Rattle.std.proofs.Common.{◌<◌, refl, ◌∙◌, arith}
use Rattle.std.proofs.lemmas.Result.{err_from_is_err_and}
use Rattle.batches_tasks.specs.Clipping.{BecomesClip, FailsClip}
use Rattle.batches_tasks.specs.declared.failure.Failure.TheVariants.{Memory}
use Rattle.batches_tasks.proofs.Turning.{nothing_yet, one_more, at_the_end, stops}
use Rattle.batches_tasks.proofs.clipper.clip_frames.Goals as goal

pub loop-number-init : goal.loop-number-init
loop-number-init g c = (
  nothing_yet (BecomesClip c.args.points.now c.args.shard) (g.R.Source.remaining c.args.reader.now) (g.W.Sink.given c.args.writer.now),
  refl,
  refl,
)

pub returns-in_err-length-clause-refused : goal.returns-in_err-length-clause-refused
returns-in_err-length-clause-refused g c =
    let p = err_from_is_err_and c.from_residual.result c.from_residual.ensures.1 in
    rw (p.1, p.2) (λ not_write.
    stops (BecomesClip c.args.points.now c.args.shard) (FailsClip c.args.points.now c.args.shard) (g.R.Source.remaining c.args.reader.now)
    (g.R.Source.remaining c.loop-number.reader) (g.W.Sink.given c.args.writer.now) (g.W.Sink.given c.loop-number.writer)
    (g.W.Sink.given c.clip_next.new.writer) c.loop-number.number c.in_err-length.field-0.0 c.loop-number.invariant.0
    (c.in_err-length.ensures.refused not_write) c.in_err-length.ensures.fails)

pub returns-then-length-eq0-clause-turned : goal.returns-then-length-eq0-clause-turned
returns-then-length-eq0-clause-turned g c =
    let over = c.in_ok-length.ensures.end c.if-length-eq0.true in
    at_the_end (BecomesClip c.args.points.now c.args.shard) (g.R.Source.remaining c.args.reader.now) (g.R.Source.remaining c.loop-number.reader)
    (g.W.Sink.given c.args.writer.now) (g.W.Sink.given c.loop-number.writer) (g.W.Sink.given c.clip_next.new.writer)
    c.loop-number.number c.loop-number.invariant.0 over.0 over.1

pub loop-number-preserved : goal.loop-number-preserved
loop-number-preserved g c =
    let some : 0 < c.in_ok-length.length = omega (arith, c.if-length-eq0.false) in
    let step = c.in_ok-length.ensures.clipped some in (
      one_more (BecomesClip c.args.points.now c.args.shard) (g.R.Source.remaining c.args.reader.now) (g.R.Source.remaining c.loop-number.reader)
          (g.R.Source.remaining c.clip_next.new.reader) (g.W.Sink.given c.args.writer.now)
          (g.W.Sink.given c.loop-number.writer) (g.W.Sink.given c.clip_next.new.writer) c.loop-number.number
          step.0 step.1 c.loop-number.invariant.0 step.2 step.3 step.4,
      c.in_ok-length.ensures.ok ∙ c.loop-number.invariant.1,
      c.in_ok-length.ensures.read_ok ∙ c.loop-number.invariant.2,
    )

pub returns-clause-refused : goal.returns-clause-refused
returns-clause-refused g c not_write =
    stops (BecomesClip c.args.points.now c.args.shard) (FailsClip c.args.points.now c.args.shard) (g.R.Source.remaining c.args.reader.now)
    (g.R.Source.remaining c.loop-number.reader) (g.W.Sink.given c.args.writer.now) (g.W.Sink.given c.loop-number.writer)
    (g.W.Sink.given c.loop-number.writer) c.loop-number.number Memory c.loop-number.invariant.0 refl tt
