-- What a file contains, as far as it can be read: frames of batches, and after them the end or something else. This project's own.
use Rattle.std.specs.Prelude.{◌≡◌, ℕ, ◌+◌, ◌<◌, ◌≤◌, List, ◌∷◌, ◌++◌, length, Option, IfSome}
use Rattle.std.specs.Io.KnownBytes.{Consumes}
use Rattle.keyspace.specs.declared.batch.Batch.{Batch}
use Rattle.keyspace.specs.declared.reply.Reply.{Reply}
use Rattle.wire.specs.declared.error.WireError.{WireError}
use Rattle.wire.specs.declared.error.WireError.TheVariants.{Short}
use Rattle.wire.specs.Spelling.{SpellsReply}
use Rattle.wire.specs.FrameLength.{frame_length}
use Rattle.wire.specs.NextFrame.{IsFaultOf}
use Rattle.wire.specs.NextReply.{IsReplyFaultOf}
use Rattle.wire.specs.Upgrade.{AreFrames}
use Rattle.replay_diagnosis.specs.declared.position.Position.{Position}
use Rattle.replay_diagnosis.specs.declared.batches.FileBatches.{FileBatches}
use Rattle.replay_diagnosis.specs.declared.run_findings.Finding.{Finding}
use Rattle.replay_diagnosis.specs.declared.run_findings.Finding.TheVariants as found
use Rattle.replay_diagnosis.specs.Following.{HasLeast}

-- the position after the frames of these batches
abbrev pub position_after : List ℕ → List Batch → Position
position_after bytes batches = record { frame = length batches + 1; offset = length bytes }

-- bytes remain, and they don't begin with the frame of a batch
abbrev pub HasNoBatch : List ℕ → Type 0
HasNoBatch bytes = (fault : WireError) × IsFaultOf fault bytes

-- an object of JSON begins with a brace
abbrev pub BeginsAsJson : List ℕ → Type 0
BeginsAsJson bytes = (rest : List ℕ) × (bytes ≡ 123 ∷ rest)

-- at the start of the file, these bytes don't begin as JSON does
abbrev pub IsNoJson : Position → List ℕ → Type 0
IsNoJson position bytes = position.offset ≡ 0 → ¬ BeginsAsJson bytes

-- the frame of a reply is at the front
abbrev pub BeginsWithReply : List ℕ → Type 0
BeginsWithReply bytes = (reply : Reply) × (first rest : List ℕ) × (bytes ≡ first ++ rest) × SpellsReply first reply

-- The bytes end inside a frame, and this many of its bytes are missing. If the length itself is incomplete, the missing bytes are those of
-- the length.
pub record EndsInFrame (missing : ℕ) (bytes : List ℕ) : Type 0 where
  pub fault : IsFaultOf Short bytes
  pub some : 0 < missing
  pub missing_is : length bytes + missing ≡ frame_length bytes

-- the bytes don't end inside the next frame, but it has this fault, and is no frame of a reply either
pub record IsNoFrame (fault : WireError) (bytes : List ℕ) : Type 0 where
  pub fault_is : IsFaultOf fault bytes
  pub complete : frame_length bytes ≤ length bytes
  pub no_reply : (other : WireError) × IsReplyFaultOf other bytes

-- what a finding says about the bytes at this position, which don't begin with the frame of a batch
abbrev pub IsFindingAt : Position → Option (List ℕ) → Finding → Type 0
IsFindingAt position left found.Memory = Unit {0}
IsFindingAt position left (found.Unreadable at) = at ≡ position
IsFindingAt position left found.Json =
    (position.offset ≡ 0) × IfSome left BeginsAsJson × IfSome left HasNoBatch
IsFindingAt position left (found.Reply at) =
    (at ≡ position) × IfSome left BeginsWithReply × IfSome left HasNoBatch
IsFindingAt position left (found.Truncated at missing) =
    (at ≡ position) × IfSome left (EndsInFrame missing) × IfSome left (IsNoJson position)
IsFindingAt position left (found.NotAFrame at fault) =
    (at ≡ position) × IfSome left (IsNoFrame fault) × IfSome left (IsNoJson position)
IsFindingAt position left found.CannotOpen = ⊥
IsFindingAt position left found.StandardInput = ⊥

-- The bytes that were left begin with the frames of some batches, and the finding is what comes after them.
pub record FoundIn (left : Option (List ℕ)) (finding : Finding) : Type 0 where
  pub now : Option (List ℕ)
  pub bytes : List ℕ
  pub batches : List Batch
  pub frames : AreFrames bytes batches
  pub read : Consumes left now bytes
  pub next : IsFindingAt (position_after bytes batches) now finding

-- The bytes that were left are the frames of some batches, and nothing else.
pub record ContainsBatches (left : Option (List ℕ)) (found : FileBatches) : Type 0 where
  pub bytes : List ℕ
  pub batches : List Batch
  pub frames : AreFrames bytes batches
  pub read : IfSome left (λ all. all ≡ bytes)
  pub least : HasLeast batches found.least_previous

-- reading failed
abbrev pub IsUnreadable : Finding → Type 0
IsUnreadable (found.Unreadable position) = Unit {0}
IsUnreadable other = ⊥
