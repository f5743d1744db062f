-- What is kept beside clips, so that reports get the indices of the batches as they were sent. This project's own.
use Rattle.std.specs.Prelude.{ℕ, ℤ, Bool, if◌then◌else◌, List, [], ◌∷◌, map, Option, None, Some}
use Rattle.std.specs.List.{flat_map, list_any}
use Rattle.std.specs.Ordering.{int_eq}
use Rattle.keyspace.specs.declared.batch.Batch.{Batch}
use Rattle.keyspace.specs.declared.txn.Txn.{Txn}
use Rattle.serial.specs.Shards.{Shard}
use Rattle.shards.specs.Clips.{read_indices}
use Rattle.replay_shards.specs.declared.note.Note.{Note}

abbrev pub requests_report : Txn → Bool
requests_report t = t.marked

abbrev pub version_of_note : Note → ℤ
version_of_note note = note.version

-- the note with these indices, if some transaction of the batch requests a report
abbrev pub note_with : List (List ℕ) → Batch → List Note
note_with reads batch =
    if list_any requests_report batch.txns then record { version = batch.version; reads = reads } ∷ [] else []

-- the note of a batch: per transaction, the indices of its read ranges that go to the shard
abbrev pub note_in : Shard → Batch → List Note
note_in shard batch = note_with (map (read_indices shard) batch.txns) batch

-- the notes of batches, in order
abbrev pub notes_of : Shard → List Batch → List Note
notes_of shard batches = flat_map (note_in shard) batches

-- the indices of a note that may be there, if it has this version
abbrev pub reads_at : ℤ → Option Note → Option (List (List ℕ))
reads_at version None = None
reads_at version (Some note) = if int_eq note.version version then Some note.reads else None

-- the indices of the first note of this version
abbrev pub first_note : ℤ → List Note → Option (List (List ℕ))
first_note version [] = None
first_note version (note ∷ notes) = if int_eq note.version version then Some note.reads else first_note version notes

-- of each shard
abbrev pub first_notes : ℤ → List (List Note) → List (Option (List (List ℕ)))
first_notes version notes = map (first_note version) notes
