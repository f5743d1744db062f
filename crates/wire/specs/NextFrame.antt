-- What one step of a reader of frames takes from the bytes left, or finds at their front.
use Rattle.std.specs.Prelude.{◌≡◌, ◌≢◌, ℕ, ◌<◌, ◌≤◌, List, [], length, Option, Some, IfSome}
use Rattle.std.specs.Io.KnownBytes.{Consumes}
use Rattle.keyspace.specs.declared.batch.Batch.{Batch}
use Rattle.wire.specs.declared.error.WireError.{WireError}
use Rattle.wire.specs.declared.error.WireError.TheVariants.{Read}
use Rattle.wire.specs.FrameLength.{frame_length}
use Rattle.wire.specs.Spelling.{SpellsBatch}
use Rattle.wire.specs.Reading.{batch_fault, version_at_front}

-- the bytes are the frame of the batch, in the wire version of its kind
abbrev pub IsFrameOf : List ℕ → Batch → Type 0
IsFrameOf bytes batch = SpellsBatch (version_at_front bytes) bytes batch

-- the frame of the batch is at the front, and just that frame leaves
abbrev pub TakesFrame : Option (List ℕ) → Option (List ℕ) → Batch → Type 0
TakesFrame old new batch = (bytes : List ℕ) × IsFrameOf bytes batch × Consumes old new bytes

-- something is left, and this is its first fault
abbrev pub IsFaultOf : WireError → List ℕ → Type 0
IsFaultOf e bytes = (bytes ≢ []) × (batch_fault bytes ≡ Some e)

-- no more than settles what a frame says; if reading failed, less
pub record IsPartOfFrame (e : WireError) (bytes : List ℕ) : Type 0 where
  pub within : length bytes ≤ frame_length bytes
  pub cut_short : e ≡ Read → length bytes < frame_length bytes

-- A part of the next frame leaves, if the reader still reports its bytes: all that was read before the refusal.
abbrev pub TakesPart : Option (List ℕ) → Option (List ℕ) → WireError → Type 0
TakesPart old new e = IfSome new (λ _. (bytes : List ℕ) × IsPartOfFrame e bytes × Consumes old new bytes)
