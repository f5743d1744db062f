-- Why a frame isn't clipped, by which of its steps refuses.
use Rattle.std.proofs.Common.{◌≡◌, ℕ, ◌<◌, List, length, refl, inl}
use Rattle.std.specs.Prelude.{Option, Some, None, slice_get, IsSomeAnd}
use Rattle.keyspace.specs.declared.batch.Batch.{Batch}
use Rattle.serial.specs.Shards.{Shard, shards}
use Rattle.shards.specs.declared.clipped.Clipped.{Clipped}
use Rattle.shards.specs.Clips.{IsClipped}
use Rattle.archcaraway_c.specs.declared.refusal.Refusal.{Refusal}
use Rattle.archcaraway_c.specs.declared.refusal.Refusal.TheVariants.{Stop, Wire, Version, Argument, Buffer, Behind}
use Rattle.archcaraway_c.specs.BatchFrame.{IsFrame, IsNoFrame}
use Rattle.archcaraway_c.specs.ShardFrames.{IsClipTo, ClipRefuses}

some_there : {X : Type 0} (found : Option X) (P : X → Type 0) → IsSomeAnd found P → (x : X) × (found ≡ Some x) × P x
some_there None P there = absurd there
some_there (Some x) P there = (x, refl, there)

pub clip_to : (points : List (List ℕ)) (number : ℕ) (frame : List ℕ) (batch : Batch) (clipped : Clipped) → IsFrame frame batch
    → IsSomeAnd (slice_get (shards points) number) (λ shard. IsClipped shard batch clipped)
    → IsClipTo points number frame clipped.batch
clip_to points number frame batch clipped asked there =
    let found = some_there (slice_get (shards points) number) (λ (shard : Shard). IsClipped shard batch clipped) there in
    record { batch = batch; shard = found.0; asked = asked; number_is = found.1; clipped = found.2.batch }

pub frame_refused : (points : List (List ℕ)) (number : ℕ) (frame : List ℕ) (capacity : ℕ) (refusal : Refusal)
    → number < length (shards points) → IsNoFrame frame refusal → ClipRefuses points number frame capacity refusal
frame_refused points number frame capacity (Wire fault) inside bad = (inside, inl bad)
frame_refused points number frame capacity Behind inside bad = (inside, bad)
frame_refused points number frame capacity (Stop stop) inside bad = absurd bad
frame_refused points number frame capacity Version inside bad = absurd bad
frame_refused points number frame capacity Argument inside bad = absurd bad
frame_refused points number frame capacity (Buffer needed) inside bad = absurd bad
