use Rattle.std.proofs.Common.{◌<◌, ◌∙◌, ℕ, List, length, refl, sym, ap, subst, inl, inr, arith}
use Rattle.std.specs.Prelude.{Err}
use Rattle.serial.specs.Shards.{shards}
use Rattle.wire.specs.declared.version.WireVersion.TheVariants.{Two}
use Rattle.wire.specs.Spelling.{SpellsBatch}
use Rattle.archcaraway_c.specs.declared.refusal.Refusal.{Refusal}
use Rattle.archcaraway_c.specs.ShardFrames.{ClipRefuses}
use Rattle.archcaraway_c.proofs.Clipping.{clip_to, frame_refused}
use Rattle.archcaraway_c.proofs.clip_frame.clip_frame.Goals as goal

pub returns-in-Err-clause-refused : goal.returns-in-Err-clause-refused
returns-in-Err-clause-refused c =
    let inside : c.args.shard < length (shards c.args.points.now) = omega (arith, c.if-shard-shard_count.false, c.shard_count.ensures.count) in
    frame_refused c.args.points.now c.args.shard c.args.frame.now (length c.args.buffer.now) c.in-Err.refusal inside c.in-Err.ensures.refused

pub returns-in-Err-clip-clause-refused : goal.returns-in-Err-clip-clause-refused
returns-in-Err-clip-clause-refused c =
    let inside : c.args.shard < length (shards c.args.points.now) = omega (arith, c.if-shard-shard_count.false, c.shard_count.ensures.count) in
    (inside, inl (inl refl))

pub returns-in-Err-encode_batch-clause-refused : goal.returns-in-Err-encode_batch-clause-refused
returns-in-Err-encode_batch-clause-refused c =
    let inside : c.args.shard < length (shards c.args.points.now) = omega (arith, c.if-shard-shard_count.false, c.shard_count.ensures.count) in
    let clip = clip_to c.args.points.now c.args.shard c.args.frame.now c.in-Ok.batch c.in-Ok-clip.clipped c.in-Ok.ensures.frame
    c.in-Ok-clip.ensures.clip in (
      inside,
      elim c.in-Err-encode_batch.ensures.err [
        | inl long ↦ inr (long, (c.in-Ok-clip.clipped.batch, clip, c.in-Err-encode_batch.ensures.long.0 (ap Err long)))
        | inr memory ↦ inl (inl memory)
      ],
    )

pub returns-clause-refused : goal.returns-clause-refused
returns-clause-refused c =
    let inside : c.args.shard < length (shards c.args.points.now) = omega (arith, c.if-shard-shard_count.false, c.shard_count.ensures.count) in
    let clip = clip_to c.args.points.now c.args.shard c.args.frame.now c.in-Ok.batch c.in-Ok-clip.clipped c.in-Ok.ensures.frame
    c.in-Ok-clip.ensures.clip in
    let small = c.in-Err-write_frame.ensures.small in
    subst (λ (r : Refusal). ClipRefuses c.args.points.now c.args.shard c.args.frame.now (length c.args.buffer.now) r) (sym small.0) (
      inside,
      small.1,
      (
        c.deref.result.now,
        (
          c.in-Ok-clip.clipped.batch,
          clip,
          subst (λ (bytes : List ℕ). SpellsBatch Two bytes c.in-Ok-clip.clipped.batch) (sym c.deref.ensures.value) c.in-Ok-encode_batch.ensures.spelled,
        ),
        refl,
      ),
    )

pub returns-in-Ok-write_frame-clause-clipped : goal.returns-in-Ok-write_frame-clause-clipped
returns-in-Ok-write_frame-clause-clipped c = (
  c.in-Ok-clip.clipped.batch,
  clip_to c.args.points.now c.args.shard c.args.frame.now c.in-Ok.batch c.in-Ok-clip.clipped c.in-Ok.ensures.frame c.in-Ok-clip.ensures.clip,
  subst (λ (bytes : List ℕ). SpellsBatch Two bytes c.in-Ok-clip.clipped.batch) (sym (c.in-Ok-write_frame.ensures.written ∙ c.deref.ensures.value))
      c.in-Ok-encode_batch.ensures.spelled,
)
