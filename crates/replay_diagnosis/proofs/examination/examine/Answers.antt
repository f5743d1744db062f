use Rattle.std.proofs.Common.{◌≡◌, ◌+◌, length, Option, refl, subst, ◌∙◌, rules}
use Rattle.std.specs.Prelude.{IfSome}
use Rattle.std.specs.Io.KnownBytes.{Consumes}
use Rattle.std.proofs.lemmas.Result.{err_from_is_err_and}
use Rattle.keyspace.specs.declared.batch.Batch.{Batch}
use Rattle.wire.specs.NextFrame.{IsFrameOf}
use Rattle.replay_diagnosis.proofs.FramesRead.{found_in, no_frames, one_frame_more}
use Rattle.replay_diagnosis.proofs.examination.examine.Goals as goal

pub loop-number-init : goal.loop-number-init
loop-number-init g c =
    (no_frames (g.R.Source.remaining c.args.reader.now) c.none-batches.result c.none-batches.ensures.none, refl)

pub returns-in_err-batch-clause-finding : goal.returns-in_err-batch-clause-finding
returns-in_err-batch-clause-finding g c =
    let p = err_from_is_err_and c.from_residual.result c.from_residual.ensures.1 in
    rw (p.1, p.2) (found_in (g.R.Source.remaining c.args.reader.now) (g.R.Source.remaining c.loop-number.reader)
    c.loop-number.number c.loop-number.offset c.loop-number.batches _ c.in_err-batch.field-0.0 c.loop-number.invariant.0 refl
    c.in_err-batch.ensures.finding)

pub loop-number-preserved : goal.loop-number-preserved
loop-number-preserved g c =
    let left = g.R.Source.remaining c.args.reader.now in
    let now = g.R.Source.remaining c.loop-number.reader in
    let next = g.R.Source.remaining c.next_batch.new.reader in
    let frame = c.next_batch.new.frame.items in
    let batch = c.in-Some.batch in
    let taken = subst (λ (found : Option Batch). IfSome found (λ b. Consumes now next frame × IsFrameOf frame b)) c.in-Some.is
    c.in_ok-batch.ensures.taken in
    let len : c.len.result ≡ length frame = search rules in
    let after : c.in-Some-checked_add.after ≡ c.loop-number.offset + c.len.result = search rules in (
      one_frame_more left now next c.loop-number.number c.loop-number.offset c.len.result c.in-Some-checked_add.after
          c.loop-number.batches c.add.new.self frame batch c.loop-number.invariant.0 taken.0 taken.1 len after
          c.add.ensures.added,
      c.in_ok-batch.ensures.ok ∙ c.loop-number.invariant.1,
    )
