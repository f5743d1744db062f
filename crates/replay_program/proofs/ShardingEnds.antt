-- How a command line with several resolvers ends, from what each of its parts says.
use Rattle.std.specs.Prelude.{◌≡◌, ◌≤◌, ℕ, List, Option, None, Some, IfSome, IsSomeAnd}
use Rattle.std.specs.Borrow.{Bor}
use Rattle.std.specs.List.{All}
use Rattle.std.proofs.Common.{arith, inl, inr, refl, sym, subst}
use Rattle.limits.specs.declared.stop.Stop.{Stop}
use Rattle.replay_arguments.specs.declared.arguments.CommandLine.{CommandLine}
use Rattle.replay_arguments.specs.declared.arguments.summary_file.SummaryFile.{SummaryFile}
use Rattle.replay_arguments.specs.declared.arguments.task.Task.{Task}
use Rattle.replay_arguments.specs.declared.arguments.task.Task.TheVariants as task
use Rattle.replay_arguments.specs.declared.opened_files.files.FileError.{FileError}
use Rattle.replay_arguments.specs.declared.opened_files.files.FileError.TheVariants as file_error
use Rattle.replay_arguments.specs.declared.opened_files.written.WrittenFile.TheVariants.{Output, Summary}
use Rattle.replay_arguments.specs.Opening.{written_line}
use Rattle.replay_output.specs.declared.options.Options.{Options}
use Rattle.replay_output.specs.declared.start.StartError.TheVariants as start
use Rattle.replay_output.specs.Quieted.{options_quieted}
use Rattle.replay_stream.specs.Sinks.{SinkState}
use Rattle.replay_tasks.specs.declared.met.Met.{Met}
use Rattle.replay_program.specs.declared.program.several_resolvers.opened.ShardingError.TheVariants as why
use Rattle.replay_program.specs.declared.report.RunReport.{RunReport}
use Rattle.replay_program.specs.Ended.{EndsAs}
use Rattle.replay_program.specs.Program.{DidNotCreateFile, NamedFiles, ReportsLine, texts}
use Rattle.replay_tasks.specs.Replayed.{Written}
use Rattle.replay_tasks.specs.Sharded.{HasMetByShards, MetStopByShards}
use Rattle.replay_program.specs.ShardedProgram.{
  AreNotPrintedByShards,
  ArePrintedByShards,
  IsTaskDoneByShards,
  LineFailsByShards,
  RegularFiles,
  TaskFailsByShards,
}

-- one resolver is asked for, or several
module _ (line : CommandLine) (One Several : Type 0) where
  pub ends_by_one : ¬ (2 ≤ line.sharding.resolvers) → One → EndsAs line One Several
  ends_by_one few so = record { one = λ is. so; several = λ two. absurd (few two) }

  pub ends_by_several : 2 ≤ line.sharding.resolvers → Several → EndsAs line One Several
  ends_by_several two so = record { one = λ is. absurd (omega (arith, two, is)); several = λ _. so }

module _ (points : List (List ℕ)) (options : Options) (files : List (Option (List ℕ))) (met : Met) (error : Written) where
  pub shards_met_nothing : met.stop ≡ None → HasMetByShards points options files met error
  shards_met_nothing none =
      subst (λ (s : Option Stop). IfSome s (λ stop. MetStopByShards points options files stop met.version error)) (sym none) tt

  -- what the shards met doesn't depend on which lines are shown
  pub shards_met_quieted : HasMetByShards points (options_quieted options) files met error → HasMetByShards points options files met error
  shards_met_quieted has = go met.stop has
    where
      go : (stop : Option Stop) → IfSome stop (λ s. MetStopByShards points (options_quieted options) files s met.version error)
          → IfSome stop (λ s. MetStopByShards points options files s met.version error)
      go None has = tt
      go (Some s) has = record {
        runs = has.runs;
        each = has.each;
        first = has.first;
        is_first = has.is_first;
        stop_is = has.stop_is;
        no_version = has.no_version;
        reported = has.reported;
      }

module _ {W : Type 0} (state_of : W → SinkState) (files : NamedFiles) where
  module _ (points : List (List ℕ)) (bytes : List (Option (List ℕ))) where
    -- reports with the same writer of the summary say the same of a task
    pub shards_done_same : (line : CommandLine) (t : Task) (report other : RunReport W) (out : Written) → other.summary ≡ report.summary
        → IsTaskDoneByShards state_of files points bytes line t report out → IsTaskDoneByShards state_of files points bytes line t other out
    shards_done_same line task.Print report other out summary is =
        subst (λ (s : Option W). ArePrintedByShards state_of files points bytes line.options line.summary_to s out) (sym summary) is
    shards_done_same line task.Explain report other out summary is = is
    shards_done_same line (task.Summarize form None) report other out summary is = is
    shards_done_same line (task.Summarize form (Some top)) report other out summary is = is
    shards_done_same line (task.Stream records) report other out summary is = is
    shards_done_same line (task.Check replies) report other out summary is = is

    pub shards_fail_same : (line : CommandLine) (t : Task) (report other : RunReport W) (out error : Written)
        → other.summary ≡ report.summary → TaskFailsByShards state_of files points bytes line t report out error
        → TaskFailsByShards state_of files points bytes line t other out error
    shards_fail_same line task.Print report other out error summary is =
        subst (λ (s : Option W). AreNotPrintedByShards state_of files points bytes line.options line.summary_to s out error) (sym summary) is
    shards_fail_same line task.Explain report other out error summary is = is
    shards_fail_same line (task.Summarize form None) report other out error summary is = is
    shards_fail_same line (task.Summarize form (Some top)) report other out error summary is = is
    shards_fail_same line (task.Stream records) report other out error summary is = is
    shards_fail_same line (task.Check replies) report other out error summary is = is

    -- the file for the summary was not created
    pub shards_without_summary : (options : Options) (file : SummaryFile) (writer : Option W) (cause : FileError) (out error : Written)
        → (cause ≡ file_error.CannotOpen → files.cannot_create file.name.now) → out.after ≡ out.before
        → ReportsLine error (written_line Summary cause)
        → AreNotPrintedByShards state_of files points bytes options (Some file) writer out error
    shards_without_summary options file writer file_error.CannotOpen out error refused nothing reported =
        inl (record { refused = refused refl; nothing_printed = nothing; reported = reported })
    shards_without_summary options file writer file_error.Memory out error refused nothing reported =
        inr (inl (record { cause = start.Memory; nothing_printed = nothing; reported = reported }))

  -- the file for the output was not created
  pub shards_without_output : (regular : RegularFiles) (line : CommandLine) (report : RunReport W) (standard error : Written)
      (name : Bor (List ℕ)) (cause : FileError) → line.output ≡ Some name → All files.has_opened (texts line.files.items)
      → (cause ≡ file_error.CannotOpen → files.cannot_create name.now) → standard.after ≡ standard.before
      → ReportsLine error (written_line Output cause) → LineFailsByShards state_of regular files line report standard error
  shards_without_output regular line report standard error name file_error.CannotOpen named opened refused nothing reported =
      inr (inl (
        opened,
        subst (λ (o : Option (Bor (List ℕ))). IsSomeAnd o (λ name. DidNotCreateFile files.cannot_create name.now Output standard error))
            (sym named) (record { refused = refused refl; nothing_printed = nothing; reported = reported }),
      ))
  shards_without_output regular line report standard error name file_error.Memory named opened refused nothing reported =
      inl (record { cause = why.Memory; because = tt; nothing_printed = nothing; reported = reported })
