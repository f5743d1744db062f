-- The runs of all shards, each beside a reference resolver. This project's own.
use Rattle.std.specs.Prelude.{◌≡◌, ℕ, List, length, map, vec_len, Option, IsSomeAnd, slice_get}
use Rattle.std.specs.List.{All, AllZip}
use Rattle.std.specs.Io.KnownBytes.{IsAtEnd}
use Rattle.serial.specs.Shards.{Shard, shards}
use Rattle.replay_output.specs.declared.line.Line.{Line}
use Rattle.replay_output.specs.declared.options.Options.{Options}
use Rattle.replay_output.specs.declared.options.form.Form.TheVariants.{Kept}
use Rattle.replay_output.specs.LineFilter.{all_lines}
use Rattle.replay_workers.specs.Run.{IsRunOver}
use Rattle.wire.specs.Batches.{IsFaultAt}
use Rattle.replay_shards.specs.declared.answered.Answered.{Answered}
use Rattle.replay_shards.specs.Answered.{AreKept}
use Rattle.replay_shards.specs.declared.clips.Clips.{Clips}
use Rattle.replay_shards.specs.declared.note.Note.{Note}
use Rattle.replay_sharded.specs.declared.runs.StartedShards.{StartedShards}
use Rattle.replay_sharded.specs.declared.shard_run.ShardRun.{ShardRun}
use Rattle.replay_sharded.specs.Files.{AreClipsOf, Reading, TakesClip, unread_file}

-- the same options, with which answers are kept and all have a line
abbrev pub keeping_options : Options → Options
keeping_options options = record options { style = record { form = Kept; filter = all_lines } }

abbrev pub lines_by : Answered → List Line
lines_by own = own.lines.items

abbrev pub notes_by : Answered → List Note
notes_by own = own.notes.items

-- the notes beside the answers to the proxy are those that were left
abbrev pub KeepsNotes : ShardRun → ℕ → Reading → Type 0
KeepsNotes run proxy left = IsSomeAnd (slice_get run.answered.items proxy) (λ own. notes_by own ≡ left.notes)

-- What became of a shard's run over files with these bytes. There is one log of the reference resolver that takes the clips of each file's
-- batches in order, and the lines are of its answers.
abbrev pub IsRunOfShard : Options → List (Option (List ℕ)) → Shard → ShardRun → Type 0
IsRunOfShard options files shard run =
    IsRunOver (TakesClip shard) (λ left. IsAtEnd left.bytes) (λ left. IsFaultAt left.bytes) (KeepsNotes run) options (map unread_file files)
    (map lines_by run.answered.items) run.failures.items run.complete run.stop

-- of every shard, at its number: the answers are kept
abbrev pub AreRunsOfShards : Options → List (List ℕ) → List (Option (List ℕ)) → List ShardRun → Type 0
AreRunsOfShards options points files runs = AllZip (IsRunOfShard (keeping_options options) files) (shards points) runs

module _ {S : Type 0} where
  -- The run of a shard, whatever files its clips are of. It is of as many proxies, and its lines keep the answers if the options say so.
  pub record IsWorkOf (remaining : S → Option (List ℕ)) (options : Options) (clips : List (Clips S)) (run : ShardRun) : Type 0 where
    pub of_files :
        (shard : Shard) (files : List (Option (List ℕ))) → AreClipsOf remaining files shard clips → IsRunOfShard options files shard run
    pub answered : vec_len run.answered ≡ length clips
    pub failures : vec_len run.failures ≡ length clips
    pub kept : options.style.form ≡ Kept → All AreKept run.answered.items

  -- the arguments of the thread of a shard
  abbrev pub given_to : StartedShards S → Options × List (Clips S)
  given_to shard = (shard.handle.promise.options, shard.handle.promise.clips.value.items)
