use Rattle.std.proofs.Common.{ℕ, List, subst}
use Rattle.std.specs.Prelude.{IsSomeAnd, slice_get}
use Rattle.serial.specs.Shards.{shards}
use Rattle.shards.specs.Clips.{IsClipped}
use Rattle.replay_shards.proofs.Clipping.{noted}
use Rattle.replay_shards.proofs.clips.Clips.clip.Goals as goal

pub returns-clause-clip : goal.returns-clause-clip
returns-clause-clip g c =
    let old = c.args.self.now in
    let clipped = c.in_ok-clip.field-0 in
    let is = subst (λ (points : List (List ℕ)). IsSomeAnd (slice_get (shards points) old.shard.number) (λ shard. IsClipped shard c.args.batch clipped))
    c.deref.ensures c.in_ok-clip.ensures.clip in
    noted old c.keep_note.new.self c.args.batch clipped is c.in_ok-keep_note.ensures.shard c.in_ok-keep_note.ensures.notes
