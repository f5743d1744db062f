-- With every combined answer there, what was combined are the answers of the logs of all shards.
use Rattle.std.specs.Prelude.{◌≡◌, ℕ, List, [], ◌∷◌, map, Option, Some, slice_get}
use Rattle.std.specs.List.{All, AllZip}
use Rattle.std.proofs.Common.{refl, sym, ap, ◌∙◌}
use Rattle.std.proofs.lemmas.List.Elements.{All-head, All-tail}
use Rattle.std.proofs.lemmas.Option.{get_or_from_slice_get}
use Rattle.keyspace.specs.declared.answer.Answer.{Answer}
use Rattle.keyspace.specs.Run.{answers}
use Rattle.serial.specs.Shards.{Shard}
use Rattle.replay_output.specs.Failures.{IsClean}
use Rattle.replay_output.specs.declared.options.Options.{Options}
use Rattle.replay_workers.proofs.callers.Lists.{all_at, found, mapped_at}
use Rattle.replay_shards.specs.Answered.{answers_by, notes_by}
use Rattle.replay_shards.specs.declared.answered.Answered.{Answered}
use Rattle.replay_shards.specs.declared.note.Note.{Note}
use Rattle.replay_sharded.specs.declared.shard_run.ShardRun.{ShardRun}
use Rattle.replay_sharded.specs.Combined.{AreOfProxy}
use Rattle.replay_sharded.specs.Files.{unread_file}
use Rattle.replay_sharded.specs.Runs.{IsRunOfShard, lines_by}
use Rattle.replay_sharded.specs.Sharded.{answers_by_shard, log_of, notes_kept}
use Rattle.replay_sharded.proofs.Logs.{logs_of, shard_log}
use Rattle.replay_sharded.proofs.EntireRuns.{IsEntire}

module _ (options : Options) (files : List (Option (List ℕ))) (proxy : ℕ) (file : Option (List ℕ))
    (file_at : slice_get files proxy ≡ Some file)
  where
    -- what one shard has answered, and the notes beside it
    one_answered : (shard : Shard) (run : ShardRun) (ran : IsRunOfShard options files shard run) → IsEntire run → (answered : Answered)
        → slice_get run.answered.items proxy ≡ Some answered
        → (answers_by answered ≡ answers options.window ran.log proxy)
        × (notes_by answered ≡ notes_kept proxy (shard_log options files shard run ran))
    one_answered shard run ran entire answered at =
        let first = mapped_at unread_file files proxy file file_at in
        let failure = found (map unread_file files) run.failures.items proxy (unread_file file) ran.failures_count first in
        let served =
        ran.each proxy (unread_file file) answered.lines.items failure.0 first (mapped_at lines_by run.answered.items proxy answered at)
        failure.1 in
        let clean = all_at IsClean run.failures.items proxy failure.0 entire.clean failure.1 in (
          served.all_received (ran.no_stop entire.complete) clean.1,
          sym (get_or_from_slice_get (map notes_by run.answered.items) proxy (notes_by answered) []
              (mapped_at notes_by run.answered.items proxy answered at)),
        )

    -- of all shards
    pub all_same : (shards : List Shard) (runs : List ShardRun) (ran : AllZip (IsRunOfShard options files) shards runs)
        (entire : All IsEntire runs) (each : List Answered) → AreOfProxy proxy runs each
        → (map answers_by each ≡ answers_by_shard options.window (map log_of (logs_of options files shards runs ran entire).0) proxy)
        × (map notes_by each ≡ map (notes_kept proxy) (logs_of options files shards runs ran entire).0)
    all_same [] [] ran entire [] at = (refl, refl)
    all_same [] [] ran entire (one ∷ each) at = absurd at
    all_same [] (run ∷ runs) ran entire each at = absurd ran
    all_same (shard ∷ shards) [] ran entire each at = absurd ran
    all_same (shard ∷ shards) (run ∷ runs) ran entire [] at = absurd at
    all_same (shard ∷ shards) (run ∷ runs) ran entire (one ∷ each) at =
        let first = one_answered shard run ran.0 (All-head IsEntire run runs entire) one at.0 in
        let rest = all_same shards runs ran.1 (All-tail IsEntire run runs entire) each at.1 in (
          ap (λ (l : List Answer). l ∷ map answers_by each) first.0
              ∙ ap (λ (l : List (List Answer)). answers options.window ran.0.log proxy ∷ l) rest.0,
          ap (λ (l : List Note). l ∷ map notes_by each) first.1
              ∙ ap (λ (l : List (List Note)). notes_kept proxy (shard_log options files shard run ran.0) ∷ l) rest.1,
        )
