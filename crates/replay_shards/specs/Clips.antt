-- The clips of the batches of a file to a shard, as a stream. This project's own.
use Rattle.std.specs.Prelude.{◌≡◌, ℕ, ◌++◌, List, Option, Some, if◌then◌else◌, slice_get}
use Rattle.std.specs.List.{AllZip}
use Rattle.keyspace.specs.declared.batch.Batch.{Batch}
use Rattle.serial.specs.Shards.{Shard, shards}
use Rattle.shards.specs.Clips.{IsBatchClip}
use Rattle.wire.specs.Frames.{frames_reader, refusal_of}
use Rattle.wire.specs.NextFrame.{TakesFrame}
use Rattle.wire.specs.declared.error.WireError.{WireError}
use Rattle.wire.specs.declared.error.WireError.TheVariants as wire
use Rattle.wire.specs.Batches.{GivesEach}
use Rattle.replay_shards.specs.declared.clips.Clips.{Clips}
use Rattle.replay_shards.specs.Notes.{note_in, notes_of}

module _ {S : Type 0} where
  -- the bytes of the file that are left
  abbrev pub bytes_left : (S → Option (List ℕ)) → Clips S → Option (List ℕ)
  bytes_left remaining clips = remaining (frames_reader clips.frames)

  -- how often the reader has failed
  abbrev pub failures_of : (S → ℕ) → Clips S → ℕ
  failures_of failures clips = failures (frames_reader clips.frames)

  -- the refusal that ended the clips: that of the frames, or of memory for a clip
  abbrev pub refusal_of_clips : Clips S → Option WireError
  refusal_of_clips clips = if clips.is_refused then Some wire.Memory else refusal_of clips.frames

  -- the shard
  abbrev pub shard_of_clips : Clips S → Option Shard
  shard_of_clips clips = slice_get (shards clips.shard.points.value) clips.shard.number

  -- Between these states the batch was clipped to the shard. If one of its transactions requests a report, its note was put after the
  -- others.
  pub record IsNotedClip (old new : Clips S) (batch clip : Batch) : Type 0 where
    pub shard : Shard
    pub before : shard_of_clips old ≡ Some shard
    pub after : shard_of_clips new ≡ Some shard
    pub is_clip : IsBatchClip shard batch clip
    pub notes : new.notes.items ≡ old.notes.items ++ note_in shard batch

  -- Between these states the frame of one batch was taken from the file, and its clip was given.
  pub record GivesClip (remaining : S → Option (List ℕ)) (old new : Clips S) (clip : Batch) : Type 0 where
    pub batch : Batch
    pub taken : TakesFrame (bytes_left remaining old) (bytes_left remaining new) batch
    pub clipped : IsNotedClip old new batch clip

  -- Between these states no clip was given. Bytes of the file may have been read.
  pub record GivesNoClip (old new : Clips S) : Type 0 where
    pub shard : shard_of_clips new ≡ shard_of_clips old
    pub notes : new.notes.items ≡ old.notes.items

  -- What the stream has given between two states: the clips of batches whose frames were taken from the file, in order. The notes of these
  -- batches were put after the others.
  pub record GaveClips (remaining : S → Option (List ℕ)) (shard : Shard) (first last : Clips S) (clips : List Batch) : Type 0 where
    pub batches : List Batch
    pub taken : GivesEach TakesFrame (bytes_left remaining first) (bytes_left remaining last) batches
    pub clipped : AllZip (IsBatchClip shard) batches clips
    pub notes : last.notes.items ≡ first.notes.items ++ notes_of shard batches
    pub same : shard_of_clips last ≡ Some shard
