-- Batches that are read and not written.
use Rattle.std.specs.Prelude.{◌≡◌, ℕ, ◌+◌, List, [], ◌∷◌, ◌++◌, length, Option, IfSome}
use Rattle.std.specs.Io.KnownBytes.{Consumes}
use Rattle.keyspace.specs.declared.batch.Batch.{Batch}
use Rattle.wire.specs.Upgrade.{AreFrames}
use Rattle.batches_tasks.specs.Failing.{FailsFrame}
use Rattle.batches_tasks.specs.Stats.{stats_of}
use Rattle.batches_tasks.specs.declared.failure.Failure.{Failure}
use Rattle.batches_arguments.specs.declared.kind.Kind.TheVariants.{Batches}
use Rattle.batches_tasks.specs.declared.stats.Stats.{Stats}

-- The bytes that were left are the frames of some batches, and the failure is that of the frame after them.
pub record StopsAfterFrames (left : Option (List ℕ)) (failure : Failure) : Type 0 where
  pub now : Option (List ℕ)
  pub bytes : List ℕ
  pub batches : List Batch
  pub frames : AreFrames bytes batches
  pub read : Consumes left now bytes
  pub fails : FailsFrame Batches (length batches + 1) now failure

-- The bytes left are the frames of some batches, and these were counted besides any others.
pub record Counts (left : Option (List ℕ)) (old new : Stats) : Type 0 where
  pub bytes : List ℕ
  pub batches : List Batch
  pub frames : AreFrames bytes batches
  pub read : IfSome left (λ all. all ≡ bytes)
  pub counted : (n : ℕ) (others : List Batch) → old ≡ stats_of n others
      → new ≡ stats_of (n + length bytes) (others ++ batches)

-- The bytes left are the frames of some batches, and these were added at the end.
pub record Collects (left : Option (List ℕ)) (old new : List Batch) : Type 0 where
  pub bytes : List ℕ
  pub batches : List Batch
  pub frames : AreFrames bytes batches
  pub read : IfSome left (λ all. all ≡ bytes)
  pub added : new ≡ old ++ batches
