-- The files, as every shard reads them: a stream of clips of each. This project's own.
use Rattle.std.specs.Prelude.{◌≡◌, ℕ, List, [], ◌++◌, map, Option, None, Some}
use Rattle.std.specs.List.{All, AllZip}
use Rattle.std.specs.Io.KnownBytes.{IsAtEnd}
use Rattle.keyspace.specs.declared.batch.Batch.{Batch}
use Rattle.serial.specs.Shards.{Shard, shards}
use Rattle.shards.specs.Clips.{IsBatchClip}
use Rattle.wire.specs.NextFrame.{TakesFrame}
use Rattle.wire.specs.Batches.{GivesEach}
use Rattle.replay_shards.specs.declared.clips.Clips.{Clips}
use Rattle.replay_shards.specs.declared.note.Note.{Note}
use Rattle.replay_shards.specs.Clips.{bytes_left, refusal_of_clips, shard_of_clips}
use Rattle.replay_shards.specs.Notes.{note_in}

-- the bytes of the file are known: nothing else changes them while they are read
abbrev pub IsKnown : Option (List ℕ) → Type 0
IsKnown file = (bytes : List ℕ) × (file ≡ Some bytes)

-- the bytes are the frames of these batches, each once, in order, and nothing else
pub record IsFileOf (bytes : Option (List ℕ)) (batches : List Batch) : Type 0 where
  pub left : Option (List ℕ)
  pub frames : GivesEach TakesFrame bytes left batches
  pub at_end : IsAtEnd left

-- how far a file was read by a shard: the bytes that are left, and the notes of the batches that were read
pub record Reading : Type 0 where
  pub bytes : Option (List ℕ)
  pub notes : List Note

-- nothing was read yet
abbrev pub unread_file : Option (List ℕ) → Reading
unread_file bytes = record { bytes = bytes; notes = [] }

-- Between these states the frame of one batch was read, and this is its clip to the shard. The batch's note, if it has one, was put after
-- the others.
pub record TakesClip (shard : Shard) (old new : Reading) (clip : Batch) : Type 0 where
  pub batch : Batch
  pub taken : TakesFrame old.bytes new.bytes batch
  pub clipped : IsBatchClip shard batch clip
  pub notes : new.notes ≡ old.notes ++ note_in shard batch

module _ {S : Type 0} where
  abbrev pub notes_left : Clips S → List Note
  notes_left clips = clips.notes.items

  -- the stream, by what its reader has left
  abbrev pub reading_of : (S → Option (List ℕ)) → Clips S → Reading
  reading_of remaining clips = record { bytes = bytes_left remaining clips; notes = notes_left clips }

  -- these readers are of files with these bytes
  abbrev pub ReadTheFiles : (S → Option (List ℕ)) → List (Option (List ℕ)) → List S → Type 0
  ReadTheFiles remaining files readers = map remaining readers ≡ files

  -- no stream has ended with a refusal
  abbrev pub AreFresh : List (Clips S) → Type 0
  AreFresh clips = All (λ own. refusal_of_clips own ≡ None) clips

  -- the clips of these files to the shard, of which nothing was read yet
  pub record AreClipsOf (remaining : S → Option (List ℕ)) (files : List (Option (List ℕ))) (shard : Shard) (clips : List (Clips S))
      : Type 0 where
    pub of_files : map (reading_of remaining) clips ≡ map unread_file files
    pub of_shard : All (λ own. shard_of_clips own ≡ Some shard) clips

  -- every shard has the clips of the same files
  abbrev pub AreClipsOfShards : (S → Option (List ℕ)) → List (List ℕ) → List (Option (List ℕ)) → List (List (Clips S)) → Type 0
  AreClipsOfShards remaining points files each = AllZip (AreClipsOf remaining files) (shards points) each
