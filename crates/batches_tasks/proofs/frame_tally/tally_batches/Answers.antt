use Rattle.std.proofs.Common.{ℕ, List, Option, refl, subst, ◌∙◌}
use Rattle.std.specs.Prelude.{IfSome}
use Rattle.std.specs.Io.KnownBytes.{Consumes}
use Rattle.keyspace.specs.declared.batch.Batch.{Batch}
use Rattle.wire.specs.NextFrame.{IsFrameOf}
use Rattle.batches_tasks.proofs.TalliedSoFar.{no_batches, one_batch_more}
use Rattle.batches_tasks.proofs.frame_tally.tally_batches.Goals as goal

pub loop-number-init : goal.loop-number-init
loop-number-init g c = (no_batches (g.R.Source.remaining c.args.reader.now) c.args.tally.now, refl)

pub loop-number-preserved : goal.loop-number-preserved
loop-number-preserved g c =
    let left = g.R.Source.remaining c.args.reader.now in
    let now = g.R.Source.remaining c.loop-number.reader in
    let next = g.R.Source.remaining c.next_batch.new.reader in
    let frame = c.next_batch.new.frame.items in
    let taken = subst (λ (found : Option Batch). IfSome found (λ b. Consumes now next frame × IsFrameOf frame b)) c.in-Some.is
    c.in_ok-batch.ensures.taken in (
      one_batch_more left now next c.args.tally.now c.loop-number.tally c.add_batch.new.self c.loop-number.number
          frame c.in-Some.batch c.loop-number.invariant.0 taken.0 taken.1 c.in_ok-add_batch.ensures.added,
      c.in_ok-batch.ensures.ok ∙ c.loop-number.invariant.1,
    )
