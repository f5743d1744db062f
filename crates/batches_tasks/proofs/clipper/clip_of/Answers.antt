use Rattle.std.proofs.Common.{Err, inl, inr, refl, ap, sym, subst}
use Rattle.batches_tasks.specs.Clipping.{IsFailureOfClip}
use Rattle.batches_tasks.proofs.Failures.{clip_at}
use Rattle.batches_tasks.proofs.clipper.clip_of.Goals as goal

pub returns-in-Ok-clause-clip : goal.returns-in-Ok-clause-clip
returns-in-Ok-clause-clip c = (
  c.in_ok-batch.batch,
  c.in_ok-clipped.clipped.batch,
  c.in_ok-batch.ensures.batch,
  clip_at c.args.points.now c.args.shard c.in_ok-batch.batch c.in_ok-clipped.clipped c.in_ok-clipped.ensures.clip,
  c.in-Ok.ensures.spelled,
)

pub returns-clause-fails : goal.returns-clause-fails
returns-clause-fails c =
    let is_clip = clip_at c.args.points.now c.args.shard c.in_ok-batch.batch c.in_ok-clipped.clipped c.in_ok-clipped.ensures.clip in
    elim c.of_clip.ensures.which [
      | inl long ↦ subst (IsFailureOfClip c.args.points.now c.args.shard c.args.number c.args.frame.now) (sym long.1) (
        refl,
        (
          c.in_ok-batch.batch,
          c.in_ok-clipped.clipped.batch,
          c.in_ok-batch.ensures.batch,
          is_clip,
          c.in-Err.ensures.long.0 (ap Err long.0),
        ),
      )
      | inr other ↦ subst (IsFailureOfClip c.args.points.now c.args.shard c.args.number c.args.frame.now) (sym other.1) tt
    ]
