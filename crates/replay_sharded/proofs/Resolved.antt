-- The theorem, except two parts that are of the logs and the combined answers alone: that each batch has its answer, and that what was
-- committed is serializable.
use Rattle.std.specs.Prelude.{◌≡◌, ℕ, ℤ, List, [], ◌∷◌, length, map, vec_items, Option, Some, slice_get}
use Rattle.std.specs.List.{AllZip}
use Rattle.std.proofs.Common.{refl, sym, ap, subst, ◌∙◌}
use Rattle.std.proofs.lemmas.List.{length-map}
use Rattle.std.proofs.lemmas.Option.{get_or_from_slice_get, same_Some}
use Rattle.keyspace.specs.declared.answer.Answer.{Answer}
use Rattle.keyspace.specs.declared.batch.Batch.{Batch}
use Rattle.keyspace.specs.Run.{Step}
use Rattle.serial.specs.Shards.{IsRising, Shard, shards}
use Rattle.replay_output.specs.Failures.{IsClean}
use Rattle.replay_output.specs.Line.{answers_of}
use Rattle.replay_output.specs.declared.options.Options.{Options}
use Rattle.replay_workers.proofs.callers.Lists.{all_at, found, mapped_at}
use Rattle.replay_shards.specs.Answered.{notes_by}
use Rattle.replay_shards.specs.Merging.{AreMerged}
use Rattle.replay_shards.specs.Notes.{notes_of}
use Rattle.replay_shards.specs.declared.note.Note.{Note}
use Rattle.replay_sharded.specs.declared.combined.Combined.{Combined}
use Rattle.replay_sharded.specs.Combined.{HasAllAnswers}
use Rattle.replay_sharded.specs.Files.{IsFileOf}
use Rattle.replay_sharded.specs.Runs.{keeping_options}
use Rattle.replay_sharded.specs.Sharded.{
  AreRunsTogether,
  CommitsSerializably,
  HasRead,
  HaveAllRead,
  IsLogOfShard,
  IsResolvedByShards,
  RepeatsAreEqual,
  ShardLog,
  answers_by_shard,
  log_of,
  notes_kept,
}
use Rattle.replay_sharded.proofs.Logs.{known_read, logs_of}
use Rattle.replay_sharded.proofs.Merged.{all_same}
use Rattle.replay_sharded.proofs.SameFile.{HasOneSpelling}
use Rattle.replay_sharded.proofs.Taking.{zip_length}
use Rattle.replay_sharded.proofs.EntireRuns.{all_entire}

-- the notes of the batches that the proxy has sent
abbrev pub notes_by_shard : List (List ℕ) → List Batch → List (List Note)
notes_by_shard points own = map (λ shard. notes_of shard own) (shards points)

-- the combined answers, by what each shard has of its run
abbrev AreMergedBy : ℤ → List ShardLog → List (List Answer) → Type 0
AreMergedBy window logs together =
    (proxy : ℕ) (answers : List Answer) → slice_get together proxy ≡ Some answers
    → AreMerged (answers_by_shard window (map log_of logs) proxy) (map (notes_kept proxy) logs) answers

-- the combined answers, by logs of the same batches
abbrev pub AreMergedOf : List (List ℕ) → ℤ → List (List Batch) → List (List Step) → List (List Answer) → Type 0
AreMergedOf points window sent logs together =
    (proxy : ℕ) (own : List Batch) (answers : List Answer) → slice_get sent proxy ≡ Some own → slice_get together proxy ≡ Some answers
    → AreMerged (answers_by_shard window logs proxy) (notes_by_shard points own) answers

-- each batch has its answer, as often as it was sent
abbrev pub AreAllAnswered : List (List Batch) → List (List Answer) → Type 0
AreAllAnswered sent together =
    (proxy : ℕ) (own : List Batch) (answers : List Answer) → slice_get sent proxy ≡ Some own → slice_get together proxy ≡ Some answers
    → length answers ≡ length own

-- What follows if all shards have read the same batches.
module _ (window : ℤ) (sent : List (List Batch)) where
  -- their logs are of these batches
  logs_each : (shards : List Shard) (logs : List ShardLog) → AllZip (HasRead window sent) shards logs
      → AllZip (IsLogOfShard window sent) shards (map log_of logs)
  logs_each [] [] each = tt
  logs_each [] (own ∷ logs) each = absurd each
  logs_each (shard ∷ shards) [] each = absurd each
  logs_each (shard ∷ shards) (own ∷ logs) each = (each.0.takes, logs_each shards logs each.1)

  -- and so are their notes
  notes_each : (proxy : ℕ) (own : List Batch) → slice_get sent proxy ≡ Some own → (shards : List Shard) (logs : List ShardLog)
      → AllZip (HasRead window sent) shards logs → map (notes_kept proxy) logs ≡ map (λ shard. notes_of shard own) shards
  notes_each proxy own at [] [] each = refl
  notes_each proxy own at [] (one ∷ logs) each = absurd each
  notes_each proxy own at (shard ∷ shards) [] each = absurd each
  notes_each proxy own at (shard ∷ shards) (one ∷ logs) each =
      ap (λ (l : List Note). l ∷ map (notes_kept proxy) logs)
      (get_or_from_slice_get one.notes proxy (notes_of shard own) [] (each.0.notes proxy own at))
      ∙ ap (λ (l : List (List Note)). notes_of shard own ∷ l) (notes_each proxy own at shards logs each.1)

pub resolved_except : HasOneSpelling → (points : List (List ℕ)) (options : Options) (files : List (Option (List ℕ))) (combined : Combined)
    → IsRising [] points → AreRunsTogether points options files combined → HasAllAnswers combined
    → ((sent : List (List Batch)) (logs : List (List Step))
    → AllZip (IsLogOfShard options.window sent) (shards points) logs
    → AreMergedOf points options.window sent logs (map answers_of (map vec_items combined.lines.items))
    → length (map answers_of (map vec_items combined.lines.items)) ≡ length sent
    → AreAllAnswered sent (map answers_of (map vec_items combined.lines.items))
    × (RepeatsAreEqual sent → CommitsSerializably sent (map answers_of (map vec_items combined.lines.items))))
    → IsResolvedByShards points options.window files (map answers_of (map vec_items combined.lines.items))
resolved_except law points options files combined rising runs all rest =
    let lines = map vec_items combined.lines.items in
    let entire = all_entire options.style (length files) runs.runs combined runs.together all runs.proxies in
    let logs = logs_of (keeping_options options) files (shards points) runs.runs runs.each entire in
    let count : length lines ≡ length files =
    length-map combined.lines.items vec_items
    ∙ (sym combined.lines.ok.0 ∙ runs.together.lines_count (length files) runs.proxies) in
    let failures : length combined.failures.items ≡ length lines =
    sym combined.failures.ok.0 ∙ (runs.together.failures_count (length files) runs.proxies ∙ sym count) in
    let merged : AreMergedBy options.window logs.0 (map answers_of lines) =
    λ proxy answers at.
    let of_proxy = found (map answers_of lines) lines proxy answers (sym (length-map lines answers_of)) at in
    let same : answers_of of_proxy.0 ≡ answers =
    same_Some (answers_of of_proxy.0) answers (sym (mapped_at answers_of lines proxy of_proxy.0 of_proxy.1) ∙ at) in
    let failure = found lines combined.failures.items proxy of_proxy.0 failures of_proxy.1 in
    let file = found lines files proxy of_proxy.0 (sym count) of_proxy.1 in
    let together = runs.together.each proxy of_proxy.0 failure.0 of_proxy.1 failure.1 in
    let clean = all_at IsClean combined.failures.items proxy failure.0 all.clean failure.1 in
    let both =
    all_same (keeping_options options) files proxy file.0 file.1 (shards points) runs.runs runs.each entire together.each together.of_runs in
    subst (λ (l : List Answer). AreMerged (answers_by_shard options.window (map log_of logs.0) proxy) (map (notes_kept proxy) logs.0) l)
    same
    (subst (λ (l : List (List Note)). AreMerged (answers_by_shard options.window (map log_of logs.0) proxy) l (answers_of of_proxy.0))
    both.1
    (subst (λ (l : List (List Answer)). AreMerged l (map notes_by together.each) (answers_of of_proxy.0)) both.0
    (together.not_lost clean.1))) in
    let as_many : length (map answers_of lines) ≡ length files = length-map lines answers_of ∙ count in
    let last : (sent : List (List Batch)) → HaveAllRead options.window points files logs.0 sent
    → AreAllAnswered sent (map answers_of lines) × (RepeatsAreEqual sent → CommitsSerializably sent (map answers_of lines)) =
    λ sent read.
    rest sent (map log_of logs.0) (logs_each options.window sent (shards points) logs.0 read.each_shard)
    (λ proxy own answers sent_at at.
    subst (λ (l : List (List Note)). AreMerged (answers_by_shard options.window (map log_of logs.0) proxy) l answers)
    (notes_each options.window sent proxy own sent_at (shards points) logs.0 read.each_shard) (merged proxy answers at))
    (as_many ∙ sym (zip_length IsFileOf files sent read.each_file)) in
    record {
      rising = rising;
      logs = logs.0;
      each_shard = logs.1;
      count = as_many;
      each_proxy = merged;
      known = known_read law options.window points files logs.0 logs.1;
      all_answered = λ sent read. (last sent read).0;
      serializable = λ sent read. (last sent read).1;
    }
