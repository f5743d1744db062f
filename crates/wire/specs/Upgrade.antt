-- What an upgrade reads, and what it writes.
use Rattle.std.specs.Prelude.{◌≡◌, ◌≢◌, ◌⊎◌, ℕ, ◌<◌, List, [], ◌∷◌, ◌++◌, length, Option, IfSome}
use Rattle.std.specs.List.{flat_map}
use Rattle.std.specs.Io.KnownBytes.{Appends, Consumes}
use Rattle.keyspace.specs.declared.batch.Batch.{Batch}
use Rattle.wire.specs.declared.error.WireError.{WireError}
use Rattle.wire.specs.declared.error.WireError.TheVariants.{Long, Memory, Read}
use Rattle.wire.specs.declared.field.TheConstants.{MAX_BODY_LENGTH}
use Rattle.wire.specs.declared.version.WireVersion.TheVariants.{Two}
use Rattle.wire.specs.Fields.{batch_fields}
use Rattle.wire.specs.Spelling.{batch_body, frame}
use Rattle.wire.specs.NextFrame.{IsFrameOf, IsFaultOf, IsPartOfFrame}

-- the frame of a batch in wire version 2
abbrev pub new_frame : Batch → List ℕ
new_frame batch = frame (batch_body Two (batch_fields batch))

abbrev pub new_frames : List Batch → List ℕ
new_frames batches = flat_map new_frame batches

-- the bytes are the frames of these batches, in sequence, each in the wire version of its kind
abbrev pub AreFrames : List ℕ → List Batch → Type 0
AreFrames bytes [] = bytes ≡ []
AreFrames bytes (batch ∷ batches) =
    (first rest : List ℕ) × (bytes ≡ first ++ rest) × IsFrameOf first batch × AreFrames rest batches

-- the frames of these batches are at the front, and then come bytes of this kind
abbrev pub BeginWithFrames : List Batch → (List ℕ → Type 0) → List ℕ → Type 0
BeginWithFrames batches Then bytes =
    (front rest : List ℕ) × (bytes ≡ front ++ rest) × AreFrames front batches × Then rest

-- the next frame is that of a batch that doesn't fit a frame of wire version 2
abbrev pub OutgrowsFrame : List ℕ → Type 0
OutgrowsFrame bytes =
    (batch : Batch) × (first rest : List ℕ) × (bytes ≡ first ++ rest) × IsFrameOf first batch
    × (MAX_BODY_LENGTH < length (batch_body Two (batch_fields batch)))

-- the refusal comes from these bytes: it is their first fault, or they begin with a batch that grows too long
abbrev pub ComesFrom : WireError → List ℕ → Type 0
ComesFrom e bytes = e ≢ Memory → e ≢ Read → IsFaultOf e bytes ⊎ ((e ≡ Long) × OutgrowsFrame bytes)

-- The bytes left are the frames of n batches, and nothing else. Their new frames were written.
pub record Upgrades (left before after : Option (List ℕ)) (count : ℕ) : Type 0 where
  pub batches : List Batch
  pub counted : length batches ≡ count
  pub read : IfSome left (λ bytes. AreFrames bytes batches)
  pub written : Appends before after (new_frames batches)

-- the frames of these batches leave, and a part of the frame after them, if the reader still reports its bytes
abbrev pub TakesFramesAndPart : List Batch → WireError → Option (List ℕ) → Option (List ℕ) → Type 0
TakesFramesAndPart batches e old new = IfSome new (λ _. (front part : List ℕ)
    × AreFrames front batches × IsPartOfFrame e part × Consumes old new (front ++ part))

-- The frames of some batches are at the front, and then the refused bytes. Nothing else was taken but a part of the next
-- frame, and the new frames of those batches were written.
pub record StopsAt (left now before after : Option (List ℕ)) (e : WireError) : Type 0 where
  pub batches : List Batch
  pub read : IfSome left (BeginWithFrames batches (ComesFrom e))
  pub taken : TakesFramesAndPart batches e left now
  pub written : Appends before after (new_frames batches)

-- The frames of some batches are at the front. If the sink still reports the bytes it was given, these grew by a prefix
-- of the new frames of those batches.
pub record BreaksOff (left before after : Option (List ℕ)) : Type 0 where
  pub batches : List Batch
  pub read : IfSome left (BeginWithFrames batches (λ _. Unit {0}))
  pub written : IfSome after (λ _. (bytes rest : List ℕ)
      × (new_frames batches ≡ bytes ++ rest) × Appends before after bytes)
