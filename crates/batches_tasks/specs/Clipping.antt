-- Which frame the clip of a batch becomes.
use Rattle.std.specs.Prelude.{◌≡◌, ℕ, ◌<◌, List, ◌++◌, length, Option, slice_get, IsSomeAnd, IfSome}
use Rattle.keyspace.specs.declared.batch.Batch.{Batch}
use Rattle.serial.specs.Shards.{shards}
use Rattle.shards.specs.Clips.{IsBatchClip}
use Rattle.wire.specs.declared.field.TheConstants.{MAX_BODY_LENGTH}
use Rattle.wire.specs.declared.version.WireVersion.TheVariants.{Two}
use Rattle.wire.specs.Fields.{batch_fields}
use Rattle.wire.specs.Spelling.{SpellsBatch, batch_body}
use Rattle.wire.specs.NextFrame.{IsFrameOf}
use Rattle.batches_tasks.specs.Failing.{FailsFrame, IsFailureOfFrame}
use Rattle.batches_tasks.specs.declared.failure.Failure.{Failure}
use Rattle.batches_tasks.specs.declared.failure.Failure.TheVariants as failure
use Rattle.batches_arguments.specs.declared.kind.Kind.TheVariants.{Batches}

-- what the shard of this number, of those that the split points make, gets of a batch
abbrev pub IsClipAt : List (List ℕ) → ℕ → Batch → Batch → Type 0
IsClipAt points number batch clip = IsSomeAnd (slice_get (shards points) number) (λ shard. IsBatchClip shard batch clip)

-- the frame becomes that, of wire version 2, of the clip of its batch
abbrev pub BecomesClip : List (List ℕ) → ℕ → List ℕ → List ℕ → Type 0
BecomesClip points shard frame text =
    (batch clip : Batch) × IsFrameOf frame batch × IsClipAt points shard batch clip × SpellsBatch Two text clip

-- the frame is that of a batch whose clip is too long for a frame
abbrev pub ClipsTooLong : List (List ℕ) → ℕ → List ℕ → Type 0
ClipsTooLong points shard frame =
    (batch clip : Batch) × IsFrameOf frame batch × IsClipAt points shard batch clip
    × (MAX_BODY_LENGTH < length (batch_body Two (batch_fields clip)))

-- the failure of the frame of this number
abbrev pub IsFailureOfClip : List (List ℕ) → ℕ → ℕ → List ℕ → Failure → Type 0
IsFailureOfClip points shard number frame (failure.LongClip n) = (n ≡ number) × ClipsTooLong points shard frame
IsFailureOfClip points shard number frame other = IsFailureOfFrame Batches number frame other

-- the frame at the front is that of a batch whose clip is too long for a frame
abbrev pub BeginsTooLong : List (List ℕ) → ℕ → List ℕ → Type 0
BeginsTooLong points shard bytes = (frame rest : List ℕ) × (bytes ≡ frame ++ rest) × ClipsTooLong points shard frame

-- what the failure says of the frame of this number, or that memory, reading or writing failed
abbrev pub FailsClip : List (List ℕ) → ℕ → ℕ → Option (List ℕ) → Failure → Type 0
FailsClip points shard number left (failure.LongClip n) = (n ≡ number) × IfSome left (BeginsTooLong points shard)
FailsClip points shard number left other = FailsFrame Batches number left other
