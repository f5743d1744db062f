use Rattle.std.proofs.Common.{◌≡◌, ℕ, List, length, Option, refl, subst, ◌∙◌, rules}
use Rattle.std.specs.Prelude.{IfSome}
use Rattle.std.specs.Io.KnownBytes.{Consumes}
use Rattle.std.proofs.lemmas.Result.{err_from_is_err_and}
use Rattle.keyspace.specs.declared.batch.Batch.{Batch}
use Rattle.wire.specs.NextFrame.{IsFrameOf}
use Rattle.batches_tasks.proofs.FramesRead.{stops_after}
use Rattle.batches_tasks.proofs.CountedSoFar.{none_counted, one_counted}
use Rattle.batches_tasks.proofs.counter.count_frames.Goals as goal

pub loop-number-init : goal.loop-number-init
loop-number-init g c = (none_counted (g.R.Source.remaining c.args.reader.now) c.args.stats.now, refl)

pub returns-in_err-batch-clause-refused : goal.returns-in_err-batch-clause-refused
returns-in_err-batch-clause-refused g c =
    let p = err_from_is_err_and c.from_residual.result c.from_residual.ensures.1 in
    rw (p.1, p.2) (stops_after (g.R.Source.remaining c.args.reader.now) (g.R.Source.remaining c.loop-number.reader)
    c.loop-number.number c.in_err-batch.field-0.0 c.loop-number.invariant.0.so_far c.in_err-batch.ensures.fails)

pub loop-number-preserved : goal.loop-number-preserved
loop-number-preserved g c =
    let left = g.R.Source.remaining c.args.reader.now in
    let now = g.R.Source.remaining c.loop-number.reader in
    let next = g.R.Source.remaining c.next_batch.new.reader in
    let frame = c.next_batch.new.frame.items in
    let batch = c.in-Some.batch in
    let taken = subst (λ (found : Option Batch). IfSome found (λ b. Consumes now next frame × IsFrameOf frame b)) c.in-Some.is
    c.in_ok-batch.ensures.taken in
    let len : c.len.result ≡ length frame = search rules in (
      one_counted left now next c.args.stats.now c.loop-number.stats c.add.new.self c.loop-number.number c.len.result frame batch
          c.loop-number.invariant.0 taken.0 taken.1 len c.in-Some-add.ensures.added,
      c.in_ok-batch.ensures.ok ∙ c.loop-number.invariant.1,
    )
