-- How the program ends with several resolvers, by its command line and the bytes of its files. This project's own.
use Rattle.std.specs.Prelude.{◌≡◌, ◌≢◌, ◌⊎◌, ◌+◌, ℕ, List, ◌++◌, codes, length, map, Option, None, Some, IfSome, true, ⊤}
use Rattle.std.specs.Borrow.{Bor}
use Rattle.std.specs.Fmt.{decimal}
use Rattle.std.specs.List.{AllZip, flat_map}
use Rattle.keyspace.specs.declared.batch.Batch.{Batch}
use Rattle.keyspace.specs.declared.reply.Reply.{Reply}
use Rattle.shards.specs.Balanced.{IsBalanced, begins_of}
use Rattle.replay_arguments.specs.declared.arguments.CommandLine.{CommandLine}
use Rattle.replay_arguments.specs.declared.arguments.summary_file.SummaryFile.{SummaryFile}
use Rattle.replay_arguments.specs.declared.arguments.task.Task.{Task}
use Rattle.replay_arguments.specs.declared.arguments.task.Task.TheVariants as task
use Rattle.replay_arguments.specs.declared.opened_files.OpeningError.TheVariants as opening
use Rattle.replay_arguments.specs.declared.opened_files.written.WrittenFile.TheVariants.{Summary}
use Rattle.replay_arguments.specs.Opening.{IsFirstRefused, contents_each, opening_line}
use Rattle.replay_output.specs.declared.options.Options.{Options}
use Rattle.replay_output.specs.declared.start.StartError.TheVariants as start
use Rattle.replay_output.specs.Quieted.{options_quieted}
use Rattle.replay_output.specs.Start.{start_line}
use Rattle.replay_shards.specs.Points.{ArePointLines}
use Rattle.replay_shards.specs.Sampling.{AreFirstOf}
use Rattle.replay_stream.specs.Sinks.{SinkState}
use Rattle.replay_program.specs.declared.program.several_resolvers.opened.ShardingError.{ShardingError}
use Rattle.replay_program.specs.declared.program.several_resolvers.opened.ShardingError.TheVariants as why
use Rattle.replay_program.specs.declared.report.RunReport.{RunReport}
use Rattle.replay_program.specs.Program.{
  AreRecorded,
  DidNotCreateFile,
  DidNotCreateOutput,
  DidNotReadReplies,
  IsGiven,
  NamedFiles,
  OfOutput,
  SaysFurther,
  ReportsLine,
  bytes_of,
  texts,
}
use Rattle.replay_tasks.specs.Replayed.{DidNotStart, HasFailed, Written, written}
use Rattle.replay_tasks.specs.Sharded.{
  FailsToCheckByShards,
  FailsToReplayAndSummarizeByShards,
  FailsToReplayByShards,
  FailsToSummarizeByShards,
  IsCheckedByShards,
  IsReplayedAndSummarizedByShards,
  IsReplayedByShards,
  IsSummarizedByShards,
  MetStopByShards,
}

-- which names are those of regular files, and which aren't
pub record RegularFiles : Type 1 where
  pub is_regular : List ℕ → Type 0
  pub is_irregular : List ℕ → Type 0

abbrev pub regular_files : (List ℕ → Type 0) → (List ℕ → Type 0) → RegularFiles
regular_files is_regular is_irregular = record { is_regular = is_regular; is_irregular = is_irregular }

-- The split points are those that the named file spells, one fewer than the resolvers. Without a file, they spread the first batches of all
-- files evenly over at most that many shards.
abbrev pub ArePointsBy : (List ℕ → Option (List ℕ)) → List (List ℕ) → ℕ → Option (Bor (List ℕ)) → List (List ℕ) → Type 0
ArePointsBy contents names resolvers (Some name) points =
    IfSome (contents name.now) (λ bytes. ArePointLines bytes points) × (length points + 1 ≡ resolvers)
ArePointsBy contents names resolvers None points =
    (samples : List (List Batch)) × AllZip AreFirstOf (contents_each contents names) samples
    × IsBalanced resolvers (begins_of (flat_map (λ own. own) samples)) points

-- the split points of a command line
abbrev pub ArePointsOf : (List ℕ → Option (List ℕ)) → CommandLine → List (List ℕ) → Type 0
ArePointsOf contents line points =
    ArePointsBy contents (texts line.files.items) line.sharding.resolvers line.sharding.split_points points

-- Why the files were not opened.

-- the line of a file that can't be opened several times
abbrev pub irregular_line : ℕ → List ℕ
irregular_line proxy = codes "replay: proxy " ++ (decimal proxy ++ codes ": not a regular file\n")

-- The cause names the first file that isn't a regular one, or that can't be opened. Faults of split points and memory are not specified.
abbrev pub IsWhyNotSharded : (List ℕ → Type 0) → (List ℕ → Type 0) → (List ℕ → Type 0) → (List ℕ → Type 0) → List (List ℕ)
    → ShardingError → Type 0
IsWhyNotSharded is_regular is_irregular has_opened cannot_open names (why.Irregular proxy) =
    IsFirstRefused is_regular is_irregular names proxy
IsWhyNotSharded is_regular is_irregular has_opened cannot_open names (why.Opening (opening.CannotOpen proxy)) =
    IsFirstRefused has_opened cannot_open names proxy
IsWhyNotSharded is_regular is_irregular has_opened cannot_open names (why.Opening opening.Memory) = ⊤
IsWhyNotSharded is_regular is_irregular has_opened cannot_open names (why.Points cause) = ⊤
IsWhyNotSharded is_regular is_irregular has_opened cannot_open names why.Memory = ⊤

-- the line on standard error; the one about a fault of split points is tested only
abbrev pub ReportsCause : ShardingError → (List ℕ → Type 0) → Type 0
ReportsCause (why.Irregular proxy) IsReported = IsReported (irregular_line proxy)
ReportsCause (why.Opening cause) IsReported = IsReported (opening_line cause)
ReportsCause (why.Points cause) IsReported = ⊤
ReportsCause why.Memory IsReported = IsReported (start_line start.Memory)

-- the files were not opened: nothing was printed, and the cause was reported
pub record DidNotShard (regular : RegularFiles) (files : NamedFiles) (names : List (List ℕ)) (out error : Written) : Type 0 where
  pub cause : ShardingError
  pub because :
      IsWhyNotSharded regular.is_regular regular.is_irregular files.has_opened files.cannot_open names cause
  pub nothing_printed : out.after ≡ out.before
  pub reported : ReportsCause cause (ReportsLine error)

-- Tasks.

-- The combined answers were printed. Their summary was written to the file that is named for it, if one is.
abbrev pub ArePrintedByShards : {W : Type 0} → (W → SinkState) → NamedFiles → List (List ℕ) → List (Option (List ℕ)) → Options
    → Option SummaryFile → Option W → Written → Type 0
ArePrintedByShards state_of files points bytes options None writer out =
    IsReplayedByShards points options bytes out.before out.after
ArePrintedByShards state_of files points bytes options (Some file) writer out =
    (to : Written) × IsGiven state_of (files.begun file.name.now) writer to
    × IsReplayedAndSummarizedByShards file.form points options bytes out.before out.after to.before to.after

-- the combined answers, or their summary, were not printed completely, or something failed
abbrev pub AreNotPrintedByShards : {W : Type 0} → (W → SinkState) → NamedFiles → List (List ℕ) → List (Option (List ℕ)) → Options
    → Option SummaryFile → Option W → Written → Written → Type 0
AreNotPrintedByShards state_of files points bytes options None writer out error =
    FailsToReplayByShards points options bytes out error
AreNotPrintedByShards state_of files points bytes options (Some file) writer out error =
    DidNotCreateFile files.cannot_create file.name.now Summary out error
    ⊎ (DidNotStart out error
    ⊎ ((to : Written) × IsGiven state_of (files.begun file.name.now) writer to
    × FailsToReplayAndSummarizeByShards file.form points options bytes out to error))

-- The combined answers were compared with the replies in the named files. `HasCount` holds of the number of differences.
pub record ChecksFilesByShards (HasCount : ℕ → Type 0) (contents : List ℕ → Option (List ℕ)) (points : List (List ℕ)) (options : Options)
    (bytes : List (Option (List ℕ))) (replies : List (List ℕ)) (before after : Option (List ℕ)) : Type 0 where
  pub recorded : List (List Reply)
  pub read : AreRecorded contents replies recorded
  pub checked : IsCheckedByShards HasCount recorded points options bytes before after

-- the replies were read, and then the program failed
pub record FailsBesideByShards (contents : List ℕ → Option (List ℕ)) (points : List (List ℕ)) (options : Options)
    (bytes : List (Option (List ℕ))) (replies : List (List ℕ)) (out error : Written) : Type 0 where
  pub recorded : List (List Reply)
  pub read : AreRecorded contents replies recorded
  pub failed : FailsToCheckByShards recorded points options bytes out error

-- the combined answers were not compared with the replies in the named files, or something failed
abbrev pub FailsToCheckFilesByShards : NamedFiles → List (List ℕ) → Options → List (Option (List ℕ)) → List (List ℕ) → Written → Written
    → Type 0
FailsToCheckFilesByShards files points options bytes replies out error =
    DidNotReadReplies files.has_opened files.cannot_open files.contents replies out error
    ⊎ FailsBesideByShards files.contents points options bytes replies out error

-- the task of a command line is done with these split points, on files of batches with these bytes
abbrev pub IsTaskDoneByShards : {W : Type 0} → (W → SinkState) → NamedFiles → List (List ℕ) → List (Option (List ℕ)) → CommandLine
    → Task → RunReport W → Written → Type 0
IsTaskDoneByShards state_of files points bytes line task.Print report out =
    ArePrintedByShards state_of files points bytes line.options line.summary_to report.summary out
IsTaskDoneByShards state_of files points bytes line (task.Summarize form None) report out =
    IsSummarizedByShards form points (options_quieted line.options) bytes out.before out.after
IsTaskDoneByShards state_of files points bytes line (task.Check replies) report out =
    ChecksFilesByShards (λ count. count ≡ 0) files.contents points line.options bytes (texts replies.items) out.before out.after
-- the other tasks are those of one resolver
IsTaskDoneByShards state_of files points bytes line _ report out = ⊥

-- the combined answers were compared, and there are differences
abbrev pub FindsDifferencesByShards : NamedFiles → List (List ℕ) → List (Option (List ℕ)) → CommandLine → Task → Written → Type 0
FindsDifferencesByShards files points bytes line (task.Check replies) out =
    ChecksFilesByShards (λ count. count ≢ 0) files.contents points line.options bytes (texts replies.items) out.before out.after
FindsDifferencesByShards files points bytes line _ out = ⊥

-- the task of a command line has failed
abbrev pub TaskFailsByShards : {W : Type 0} → (W → SinkState) → NamedFiles → List (List ℕ) → List (Option (List ℕ)) → CommandLine
    → Task → RunReport W → Written → Written → Type 0
TaskFailsByShards state_of files points bytes line task.Print report out error =
    AreNotPrintedByShards state_of files points bytes line.options line.summary_to report.summary out error
TaskFailsByShards state_of files points bytes line (task.Summarize form None) report out error =
    FailsToSummarizeByShards form points (options_quieted line.options) bytes out error
TaskFailsByShards state_of files points bytes line (task.Check replies) report out error =
    FailsToCheckFilesByShards files points line.options bytes (texts replies.items) out error
TaskFailsByShards state_of files points bytes line _ report out error = ⊥

-- Command lines.

-- the output of a command line went where it says, and `Holds` is true of its split points and of what was written there
abbrev pub OfPoints : {W : Type 0} → (W → SinkState) → NamedFiles → CommandLine → RunReport W → Written
    → (List (List ℕ) → Written → Type 0) → Type 0
OfPoints state_of files line report standard Holds =
    (points : List (List ℕ)) × ArePointsOf files.contents line points
    × OfOutput state_of files line report standard (Holds points)

-- the task of a command line is done
abbrev pub IsLineDoneByShards : {W : Type 0} → (W → SinkState) → NamedFiles → CommandLine → RunReport W → Written → Type 0
IsLineDoneByShards state_of files line report standard =
    OfPoints state_of files line report standard
    (λ points. IsTaskDoneByShards state_of files points (bytes_of files line) line line.task report)

-- there are differences between the combined answers and the replies that a command line names
abbrev pub LineFindsDifferencesByShards : {W : Type 0} → (W → SinkState) → NamedFiles → CommandLine → RunReport W → Written → Type 0
LineFindsDifferencesByShards state_of files line report standard =
    OfPoints state_of files line report standard
    (λ points. FindsDifferencesByShards files points (bytes_of files line) line line.task)

-- The command line failed: the files were not opened, the file for the output was not created, or its task failed. A task also fails if its
-- runs did not start.
abbrev pub LineFailsByShards : {W : Type 0} → (W → SinkState) → RegularFiles → NamedFiles → CommandLine → RunReport W → Written → Written
    → Type 0
LineFailsByShards state_of regular files line report standard error =
    DidNotShard regular files (texts line.files.items) standard error
    ⊎ (DidNotCreateOutput files line standard error
    ⊎ OfPoints state_of files line report standard
    (λ points out. TaskFailsByShards state_of files points (bytes_of files line) line line.task report out error))

-- A command line has failed, and the failure was reported. `given` and `failures` are the state of standard error after the fixed lines.
pub record LineFailsAndSaysByShards {W : Type 0} (state_of : W → SinkState) (regular : RegularFiles) (files : NamedFiles)
    (line : CommandLine) (report : RunReport W) (standard error : Written) : Type 0 where
  pub given : Option (List ℕ)
  pub failures : ℕ
  pub failed : LineFailsByShards state_of regular files line report standard (written error.before given error.failures_before failures)
  -- The runs of all shards met the stop, if there is one, and the last fixed lines name it. If the output failed, its writer failed.
  pub met :
      IfSome report.met.stop
      (λ stop. (points : List (List ℕ)) × ArePointsOf files.contents line points
      × MetStopByShards points line.options (bytes_of files line) stop report.met.version
      (written error.before given error.failures_before failures))
  pub output_failed : report.met.output_failed ≡ true → OfOutput state_of files line report standard HasFailed
  pub further :
      SaysFurther line.verbose files.contents files.cannot_open line report.met
      (written given error.after failures error.failures_after)
