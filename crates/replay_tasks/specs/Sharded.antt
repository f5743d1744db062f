-- What the program prints with several resolvers, beside the bytes of its files. This project's own.
use Rattle.std.specs.Prelude.{◌≡◌, ◌⊎◌, ◌<◌, ℕ, ℤ, Bool, List, [], length, map, codes, ◌++◌, vec_items, Option, None, Some, IfSome, option_map}
use Rattle.std.specs.Fmt.{decimal}
use Rattle.std.specs.List.{All}
use Rattle.std.specs.Io.KnownBytes.{Appends}
use Rattle.keyspace.specs.declared.answer.Answer.{Answer}
use Rattle.keyspace.specs.declared.batch.Batch.{Batch}
use Rattle.keyspace.specs.declared.reply.Reply.{Reply}
use Rattle.serial.specs.Replies.{IsCommittedAt}
use Rattle.limits.specs.declared.stop.Stop.{Stop}
use Rattle.replay_output.specs.declared.failures.ProxyFailure.{ProxyFailure}
use Rattle.replay_output.specs.declared.line.Line.{Line}
use Rattle.replay_output.specs.declared.options.Options.{Options}
use Rattle.replay_output.specs.declared.options.form.Form.{Form}
use Rattle.replay_output.specs.Line.{TakesToSort, answers_of}
use Rattle.replay_output.specs.Lines.{lines}
use Rattle.replay_summary.specs.declared.text.SummaryForm.{SummaryForm}
use Rattle.replay_sharded.specs.declared.combined.Combined.{Combined}
use Rattle.replay_shards.specs.declared.failures.ShardStop.{ShardStop}
use Rattle.replay_sharded.specs.declared.shard_run.ShardRun.{ShardRun}
use Rattle.replay_sharded.specs.Combined.{HasAllAnswers, stop_of}
use Rattle.replay_sharded.specs.Runs.{AreRunsOfShards}
use Rattle.replay_sharded.specs.Sharded.{AreRunsTogether, CommitsSerializably, HaveAllRead, IsResolvedByShards, RepeatsAreEqual}
use Rattle.replay_shards.specs.Failures.{IsFirstStop}
use Rattle.replay_tasks.specs.declared.met.Met.{Met}
use Rattle.replay_tasks.specs.Checked.{TakesToCompare, check_lines, differences_of}
use Rattle.replay_tasks.specs.Met.{ReportsStop}
use Rattle.replay_tasks.specs.Replayed.{
  DidNotStart,
  LineSaysCommitted,
  OfRun,
  RanAndFailed,
  Written,
  ending_of,
}
use Rattle.replay_tasks.specs.Summarized.{BothFailed, TakesToSummarize, run_summary}

-- the combined answers to each proxy
abbrev pub together_of : Combined → List (List Answer)
together_of combined = map answers_of (map vec_items combined.lines.items)

-- What these answers report as committed is of the batches that were sent, and is serializable. The lines say of just these transactions
-- that they were committed.
pub record WordsAreSerializable (form : Form) (sent : List (List Batch)) (together : List (List Answer)) : Type 0 where
  pub commits : CommitsSerializably sent together
  pub each_word :
      (proxy : ℕ) (version : ℤ) (index : ℕ) → LineSaysCommitted form together proxy version index
      → IsCommittedAt commits.processed proxy version index
  pub all_words :
      (proxy : ℕ) (version : ℤ) (index : ℕ) → IsCommittedAt commits.processed proxy version index
      → LineSaysCommitted form together proxy version index

-- All files were read and resolved by a resolver per shard, and this was printed of the combined answers: of those that are shown.
pub record IsReplayedByShardsBy (Printed : List (List Answer) → Type 0) (points : List (List ℕ)) (options : Options)
    (files : List (Option (List ℕ))) : Type 0 where
  pub combined : Combined
  pub runs : AreRunsTogether points options files combined
  pub all : HasAllAnswers combined
  pub resolved : IsResolvedByShards points options.window files (together_of combined)
  -- if all shards have read these batches of the files, and no proxy sends two different batches of one version
  pub words :
      (sent : List (List Batch)) → HaveAllRead options.window points files resolved.logs sent → RepeatsAreEqual sent
      → WordsAreSerializable options.style.form sent (together_of combined)
  pub printed : Printed (together_of combined)

-- the text printed is the lines of the combined answers that are shown
abbrev pub IsReplayedByShards : List (List ℕ) → Options → List (Option (List ℕ)) → Option (List ℕ) → Option (List ℕ) → Type 0
IsReplayedByShards points options files before after =
    IsReplayedByShardsBy (λ together. Appends before after (lines options.style together)) points options files

-- another writer was given the summary of all combined answers
abbrev pub IsReplayedAndSummarizedByShards : SummaryForm → List (List ℕ) → Options → List (Option (List ℕ)) → Option (List ℕ)
    → Option (List ℕ) → Option (List ℕ) → Option (List ℕ) → Type 0
IsReplayedAndSummarizedByShards form points options files before after before_beside after_beside =
    IsReplayedByShardsBy
    (λ together. Appends before after (lines options.style together)
    × Appends before_beside after_beside (run_summary form None together))
    points options files

-- the text printed is the summary of all combined answers
abbrev pub IsSummarizedByShards : SummaryForm → List (List ℕ) → Options → List (Option (List ℕ)) → Option (List ℕ) → Option (List ℕ)
    → Type 0
IsSummarizedByShards form points options files before after =
    IsReplayedByShardsBy (λ together. Appends before after (run_summary form None together)) points options files

-- the text printed is the lines of the differences from the recorded replies, and their number is as said
abbrev pub IsCheckedByShards : (ℕ → Type 0) → List (List Reply) → List (List ℕ) → Options → List (Option (List ℕ))
    → Option (List ℕ) → Option (List ℕ) → Type 0
IsCheckedByShards HasCount recorded points options files before after =
    IsReplayedByShardsBy
    (λ together. Appends before after (check_lines recorded together) × HasCount (differences_of recorded together))
    points options files

-- Failures.

-- the line that names the shard whose resolver met the stop, after that of the stop
abbrev pub shard_line : ℕ → List ℕ
shard_line shard = codes "replay: shard " ++ (decimal shard ++ codes "\n")

abbrev pub shard_lines : Option ShardStop → List ℕ
shard_lines None = []
shard_lines (Some met) = shard_line met.shard

-- After the lines of failures, the shard of a stop was named, or the writer failed.
pub record NamesShard (stop : Option ShardStop) (so_far error : Written) : Type 0 where
  pub before : so_far.before ≡ error.before
  pub failures_before : so_far.failures_before ≡ error.failures_before
  pub line : (so_far.failures_after < error.failures_after) ⊎ Appends so_far.after error.after (shard_lines stop)

-- `OfRun` for the combined runs: their lines, their failures, whether they are complete, and the first stop
abbrev pub AreAsCombined : Combined → OfRun
AreAsCombined combined received failures complete stop =
    (received ≡ map vec_items combined.lines.items) × (failures ≡ combined.failures.items) × (complete ≡ combined.complete)
    × (stop ≡ option_map (λ (met : ShardStop). met.stop) combined.stop)

-- All shards were run, something failed, as is said of one run, and then the shard of a stop was named.
pub record RanByShardsAndFailed (Failed : OfRun → Written → Type 0) (points : List (List ℕ)) (options : Options)
    (files : List (Option (List ℕ))) (error : Written) : Type 0 where
  pub combined : Combined
  pub runs : AreRunsTogether points options files combined
  pub so_far : Written
  pub failed : Failed (AreAsCombined combined) so_far
  pub named : NamesShard combined.stop so_far error

-- the program failed, which was to print this text of the combined answers
abbrev pub FailsToPrintByShards : (List (List Answer) → List ℕ) → (List (List Line) → ℕ → Type 0) → List (List ℕ) → Options
    → List (Option (List ℕ)) → Written → Written → Type 0
FailsToPrintByShards text Takes points options files out error =
    DidNotStart out error
    ⊎ RanByShardsAndFailed (λ Ran so_far. RanAndFailed Ran text Takes (length files) out so_far) points options files error

abbrev pub FailsToReplayByShards : List (List ℕ) → Options → List (Option (List ℕ)) → Written → Written → Type 0
FailsToReplayByShards points options files out error =
    FailsToPrintByShards (lines options.style) TakesToSort points options files out error

abbrev pub FailsToSummarizeByShards : SummaryForm → List (List ℕ) → Options → List (Option (List ℕ)) → Written → Written → Type 0
FailsToSummarizeByShards form points options files out error =
    FailsToPrintByShards (run_summary form None) TakesToSummarize points options files out error

abbrev pub FailsToCheckByShards : List (List Reply) → List (List ℕ) → Options → List (Option (List ℕ)) → Written → Written → Type 0
FailsToCheckByShards recorded points options files out error =
    FailsToPrintByShards (check_lines recorded) (TakesToCompare recorded) points options files out error

-- of a run, what was printed of its lines and written of their summary, where something failed
pub record BothFailedOf (form : SummaryForm) (options : Options) (out beside : Written) (Ran : OfRun) (error : Written) : Type 0 where
  pub received : List (List Line)
  pub failures : List ProxyFailure
  pub complete : Bool
  pub stop : Option Stop
  pub run : Ran received failures complete stop
  pub failed : BothFailed form None options.style received failures (ending_of complete stop) out beside error

abbrev pub FailsToReplayAndSummarizeByShards : SummaryForm → List (List ℕ) → Options → List (Option (List ℕ)) → Written → Written
    → Written → Type 0
FailsToReplayAndSummarizeByShards form points options files out beside error =
    (DidNotStart out error × (beside.after ≡ beside.before))
    ⊎ RanByShardsAndFailed (BothFailedOf form options out beside) points options files error

-- What the runs met.

-- Standard error was given lines of which the last names this stop, and then the line that names its shard, unless it has failed.
pub record ReportsShardStop (met : ShardStop) (error : Written) : Type 0 where
  pub so_far : Written
  pub stop : ReportsStop met.stop so_far
  pub shard : NamesShard (Some met) so_far error

-- The first shard that met a stop, in runs of all shards over these files, met this one. No version is said to be reached.
pub record MetStopByShards (points : List (List ℕ)) (options : Options) (files : List (Option (List ℕ))) (stop : Stop)
    (version : Option ℤ) (error : Written) : Type 0 where
  pub runs : List ShardRun
  pub each : AreRunsOfShards options points files runs
  pub first : ShardStop
  pub is_first : IsFirstStop (map stop_of runs) first
  pub stop_is : first.stop ≡ stop
  pub no_version : version ≡ None
  pub reported : ReportsShardStop first error

-- the stop, if there is one, was met by the runs of all shards over these files, and standard error says so
abbrev pub HasMetByShards : List (List ℕ) → Options → List (Option (List ℕ)) → Met → Written → Type 0
HasMetByShards points options files met error =
    IfSome met.stop (λ stop. MetStopByShards points options files stop met.version error)
