use Rattle.std.proofs.Common.{ℕ, List, Option, refl, subst, ◌∙◌}
use Rattle.std.specs.Prelude.{IfSome}
use Rattle.std.specs.Io.KnownBytes.{Consumes}
use Rattle.std.proofs.lemmas.Result.{err_from_is_err_and}
use Rattle.keyspace.specs.declared.batch.Batch.{Batch}
use Rattle.wire.specs.NextFrame.{IsFrameOf}
use Rattle.batches_tasks.specs.declared.failure.Failure.TheVariants.{Memory}
use Rattle.batches_tasks.proofs.FramesRead.{stops_after}
use Rattle.batches_tasks.proofs.CountedSoFar.{none_collected, one_collected}
use Rattle.batches_tasks.proofs.sample.read_batches.Goals as goal

pub loop-number-init : goal.loop-number-init
loop-number-init g c = (none_collected (g.R.Source.remaining c.args.reader.now) c.args.batches.now.items, refl)

pub returns-in_err-batch-clause-refused : goal.returns-in_err-batch-clause-refused
returns-in_err-batch-clause-refused g c =
    let p = err_from_is_err_and c.from_residual.result c.from_residual.ensures.1 in
    rw (p.1, p.2) (stops_after (g.R.Source.remaining c.args.reader.now) (g.R.Source.remaining c.loop-number.reader)
    c.loop-number.number c.in_err-batch.field-0.0 c.loop-number.invariant.0.so_far c.in_err-batch.ensures.fails)

pub returns-in_err-push-clause-refused : goal.returns-in_err-push-clause-refused
returns-in_err-push-clause-refused g c =
    let p = err_from_is_err_and c.from_residual-in_err-push.result c.from_residual-in_err-push.ensures.1 in
    rw (p.1, p.2) (stops_after (g.R.Source.remaining c.args.reader.now) (g.R.Source.remaining c.loop-number.reader)
    c.loop-number.number Memory c.loop-number.invariant.0.so_far tt)

pub loop-number-preserved : goal.loop-number-preserved
loop-number-preserved g c =
    let left = g.R.Source.remaining c.args.reader.now in
    let now = g.R.Source.remaining c.loop-number.reader in
    let next = g.R.Source.remaining c.next_batch.new.reader in
    let frame = c.next_batch.new.frame.items in
    let taken = subst (λ (found : Option Batch). IfSome found (λ b. Consumes now next frame × IsFrameOf frame b)) c.in-Some.is
    c.in_ok-batch.ensures.taken in (
      one_collected left now next c.args.batches.now.items c.loop-number.batches.items c.push.new.self.items c.loop-number.number
          frame c.in-Some.batch c.loop-number.invariant.0 taken.0 taken.1 c.in_ok-push.ensures.items,
      c.in_ok-batch.ensures.ok ∙ c.loop-number.invariant.1,
    )
