-- How the program ends, by its command line and the bytes of its files. This project's own.
use Rattle.std.specs.Prelude.{◌≡◌, ◌≢◌, ◌⊎◌, ℕ, ◌≤◌, Bool, true, false, List, codes, length, map, Option, None, Some, IsSomeAnd, option_map, slice_get}
use Rattle.std.specs.Borrow.{Bor}
use Rattle.std.specs.Io.KnownBytes.{Keeps}
use Rattle.std.specs.List.{All, AllZip}
use Rattle.keyspace.specs.declared.reply.Reply.{Reply}
use Rattle.replay_arguments.specs.declared.arguments.CommandLine.{CommandLine}
use Rattle.replay_arguments.specs.declared.arguments.summary_file.SummaryFile.{SummaryFile}
use Rattle.replay_arguments.specs.declared.arguments.task.Task.{Task}
use Rattle.replay_arguments.specs.declared.arguments.task.Task.TheVariants as task
use Rattle.replay_arguments.specs.declared.opened_files.OpeningError.TheVariants as opening
use Rattle.replay_arguments.specs.declared.opened_files.files.FileError.TheVariants as file_error
use Rattle.replay_arguments.specs.declared.opened_files.written.WrittenFile.{WrittenFile}
use Rattle.replay_arguments.specs.declared.opened_files.written.WrittenFile.TheVariants.{Output, Summary}
use Rattle.replay_arguments.specs.Opening.{IsFirstRefused, contents_each, creating_line, opening_line, written_line}
use Rattle.replay_output.specs.declared.options.Options.{Options}
use Rattle.replay_output.specs.declared.start.StartError.TheVariants as start
use Rattle.replay_output.specs.Quieted.{options_quieted}
use Rattle.replay_output.specs.Start.{start_line}
use Rattle.replay_tasks.specs.declared.check.replies.RepliesError.{RepliesError}
use Rattle.replay_tasks.specs.declared.met.Met.{Met}
use Rattle.replay_program.specs.declared.report.RunReport.{RunReport}
use Rattle.replay_tasks.specs.Checked.{TakesToCompare, check_lines}
use Rattle.replay_tasks.specs.Explained.{FailsToExplain, IsReplayedWithExplanations}
use Rattle.replay_tasks.specs.Met.{HasMet}
use Rattle.replay_tasks.specs.Replayed.{DidNotStart, FailsToPrint, FailsToReplay, HasFailed, IsChecked, IsReplayed, Took, Written, written}
use Rattle.replay_tasks.specs.Replies.{IsCauseOf, IsReplyFile, replies_line}
use Rattle.replay_program.specs.Streamed.{IsStreamDone, StreamedAndFailed}
use Rattle.replay_tasks.specs.Summarized.{FailsToReplayAndSummarize, FailsToSummarize, IsReplayedAndSummarized, IsSummarized}
use Rattle.replay_program.specs.Verbose.{IsExplained, SaysHeld}
use Rattle.replay_stream.specs.declared.recorder.Recorder.{Recorder}
use Rattle.replay_stream.specs.Sinks.{SinkState}

-- What files report, by name.
pub record NamedFiles : Type 1 where
  -- of a file that is read: its bytes, and whether it was opened or can't be
  pub contents : List ℕ → Option (List ℕ)
  pub has_opened : List ℕ → Type 0
  pub cannot_open : List ℕ → Type 0
  -- of a file that is written: the bytes that its new writer was given, and whether it was created or can't be
  pub begun : List ℕ → Option (List ℕ)
  pub has_created : List ℕ → Type 0
  pub cannot_create : List ℕ → Type 0

abbrev pub named_files : (List ℕ → Option (List ℕ)) → (List ℕ → Type 0) → (List ℕ → Type 0)
    → (List ℕ → Option (List ℕ)) → (List ℕ → Type 0) → (List ℕ → Type 0) → NamedFiles
named_files contents has_opened cannot_open begun has_created cannot_create = record {
  contents = contents;
  has_opened = has_opened;
  cannot_open = cannot_open;
  begun = begun;
  has_created = has_created;
  cannot_create = cannot_create;
}

-- the texts of names
abbrev pub texts : List (Bor (List ℕ)) → List (List ℕ)
texts names = map (λ name. name.now) names

-- the bytes of the files of batches that a command line names
abbrev pub bytes_of : NamedFiles → CommandLine → List (Option (List ℕ))
bytes_of files line = contents_each files.contents (texts line.files.items)

-- the line was printed, or standard error failed
abbrev pub ReportsLine : Written → List ℕ → Type 0
ReportsLine error line = HasFailed error ⊎ Took error line

-- a file can't be opened: nothing was printed, and the first such file was reported
pub record DidNotOpen (has_opened cannot_open : List ℕ → Type 0) (names : List (List ℕ)) (out error : Written) :
    Type 0 where
  pub proxy : ℕ
  pub first : IsFirstRefused has_opened cannot_open names proxy
  pub nothing_printed : out.after ≡ out.before
  pub reported : ReportsLine error (opening_line (opening.CannotOpen proxy))

-- the file of this name can't be created: nothing was printed, and the failure was reported
pub record DidNotCreateFile (cannot_create : List ℕ → Type 0) (name : List ℕ) (file : WrittenFile) (out error : Written) :
    Type 0 where
  pub refused : cannot_create name
  pub nothing_printed : out.after ≡ out.before
  pub reported : ReportsLine error (written_line file file_error.CannotOpen)

-- A file was written by its new writer: that writer was first given `begun`, and has become `writer`. `to` says what it was given in between.
pub record IsGiven {W : Type 0} (state_of : W → SinkState) (begun : Option (List ℕ)) (writer : Option W) (to : Written) :
    Type 0 where
  pub opened : W
  pub last : W
  pub new : (state_of opened).given ≡ begun
  pub writer_is : writer ≡ Some last
  pub to_is :
      to ≡ written (state_of opened).given (state_of last).given (state_of opened).failures (state_of last).failures

-- The output goes to standard output, or to the file that is named for it. Then standard output is unchanged.
abbrev pub GoesTo : {W : Type 0} → (W → SinkState) → (List ℕ → Option (List ℕ)) → Option (Bor (List ℕ)) → Option W → Written
    → Written → Type 0
GoesTo state_of begun None writer standard out = (writer ≡ None) × (out ≡ standard)
GoesTo state_of begun (Some name) writer standard out =
    (standard.after ≡ standard.before) × (standard.failures_after ≡ standard.failures_before)
    × IsGiven state_of (begun name.now) writer out

-- The answers to these files of batches were printed. Their summary was written to the file that is named for it, if one is.
abbrev pub ArePrinted : {W : Type 0} → (W → SinkState) → NamedFiles → List (Option (List ℕ)) → Options → Option SummaryFile
    → Option W → Written → Type 0
ArePrinted state_of files bytes options None writer out = IsReplayed options bytes out.before out.after
ArePrinted state_of files bytes options (Some file) writer out =
    (to : Written) × IsGiven state_of (files.begun file.name.now) writer to
    × IsReplayedAndSummarized file.form options bytes out.before out.after to.before to.after

-- the answers, or their summary, were not printed completely, or something failed
abbrev pub AreNotPrinted : {W : Type 0} → (W → SinkState) → NamedFiles → List (Option (List ℕ)) → Options → Option SummaryFile
    → Option W → Written → Written → Type 0
AreNotPrinted state_of files bytes options None writer out error = FailsToReplay options bytes out error
AreNotPrinted state_of files bytes options (Some file) writer out error =
    DidNotCreateFile files.cannot_create file.name.now Summary out error
    ⊎ (DidNotStart out error
    ⊎ ((to : Written) × IsGiven state_of (files.begun file.name.now) writer to
    × FailsToReplayAndSummarize file.form options bytes out to error))

-- the files of replies were not read: nothing was printed, and the cause was reported
pub record DidNotReadReplies (has_opened cannot_open : List ℕ → Type 0) (contents : List ℕ → Option (List ℕ))
    (names : List (List ℕ)) (out error : Written) : Type 0 where
  pub cause : RepliesError
  pub why : IsCauseOf has_opened cannot_open contents names cause
  pub nothing_printed : out.after ≡ out.before
  pub reported : ReportsLine error (replies_line cause)

-- the replies that were read of the files of these names
abbrev pub AreRecorded : (List ℕ → Option (List ℕ)) → List (List ℕ) → List (List Reply) → Type 0
AreRecorded contents names recorded = AllZip IsReplyFile (contents_each contents names) recorded

-- The answers to these files were compared with the replies in the named files. `HasCount` holds of the number of differences.
pub record ChecksFiles (HasCount : ℕ → Type 0) (contents : List ℕ → Option (List ℕ)) (options : Options)
    (bytes : List (Option (List ℕ))) (replies : List (List ℕ)) (before after : Option (List ℕ)) : Type 0 where
  pub recorded : List (List Reply)
  pub read : AreRecorded contents replies recorded
  pub checked : IsChecked HasCount recorded options bytes before after

-- the replies were read, and then the program failed
pub record FailsBeside (contents : List ℕ → Option (List ℕ)) (options : Options) (bytes : List (Option (List ℕ)))
    (replies : List (List ℕ)) (out error : Written) : Type 0 where
  pub recorded : List (List Reply)
  pub read : AreRecorded contents replies recorded
  pub failed : FailsToPrint (check_lines recorded) (TakesToCompare recorded) options bytes out error

-- the answers to these files were not compared with the replies in the named files, or something failed
abbrev pub FailsToCheck : NamedFiles → Options → List (Option (List ℕ)) → List (List ℕ) → Written → Written → Type 0
FailsToCheck files options bytes replies out error =
    DidNotReadReplies files.has_opened files.cannot_open files.contents replies out error
    ⊎ (DidNotStart out error ⊎ FailsBeside files.contents options bytes replies out error)

-- Each of these files for records has a writer, at the number of its proxy, and no other proxy has one. Writers are seen as the bytes that
-- they were given.
pub record HaveWriters (begun : List ℕ → Option (List ℕ)) (names : List (List ℕ)) (writers : List (Option (Option (List ℕ))))
    : Type 0 where
  pub each : (proxy : ℕ) (name : List ℕ) → slice_get names proxy ≡ Some name → slice_get writers proxy ≡ Some (Some (begun name))
  pub no_more :
      (proxy : ℕ) (writer : Option (Option (List ℕ))) → length names ≤ proxy → slice_get writers proxy ≡ Some writer
      → writer ≡ None

-- the writers that were opened for n proxies, one for each of these files for records
pub record AreWriters {W : Type 0} (state_of : W → SinkState) (begun : List ℕ → Option (List ℕ)) (proxies : ℕ)
    (records : List (List ℕ)) (writers : List (Option W)) : Type 0 where
  pub count : length writers ≡ proxies
  pub of_files : HaveWriters begun records (map (option_map (λ (w : W). (state_of w).given)) writers)

-- These files were read and resolved. The lines are those of all answers that are shown. If files for records are named,
-- their writers were given the records of all answers: the recorders that have ended have these writers.
pub record StreamsFiles {W : Type 0} (state_of : W → SinkState) (begun : List ℕ → Option (List ℕ)) (options : Options)
    (bytes : List (Option (List ℕ))) (records : List (List ℕ)) (recorders : List (Option (Recorder W)))
    (before after : Option (List ℕ)) : Type 0 where
  pub writers : List (Option W)
  pub opened : AreWriters state_of begun (length bytes) records writers
  pub entire : IsStreamDone state_of options bytes writers recorders before after

-- a file for records can't be opened: nothing was printed, and the first such file was reported
pub record DidNotCreate (has_created cannot_create : List ℕ → Type 0) (names : List (List ℕ)) (out error : Written) :
    Type 0 where
  pub proxy : ℕ
  pub first : IsFirstRefused has_created cannot_create names proxy
  pub nothing_printed : out.after ≡ out.before
  pub reported : ReportsLine error (creating_line (opening.CannotOpen proxy))

-- These files were read and resolved, and something failed. The lines are those of a prefix of the answers to each proxy,
-- without those that a filter hides. So are the records, if files for them are named.
pub record StreamsAndFails {W : Type 0} (state_of : W → SinkState) (begun : List ℕ → Option (List ℕ)) (options : Options)
    (bytes : List (Option (List ℕ))) (records : List (List ℕ)) (recorders : List (Option (Recorder W)))
    (out error : Written) : Type 0 where
  pub writers : List (Option W)
  pub opened : AreWriters state_of begun (length bytes) records writers
  pub failed : StreamedAndFailed state_of options bytes writers recorders out error

-- the answers to these files were not streamed, or something failed
abbrev pub FailsToStreamFiles : {W : Type 0} → (W → SinkState) → NamedFiles → Options → List (Option (List ℕ)) → List (List ℕ)
    → List (Option (Recorder W)) → Written → Written → Type 0
FailsToStreamFiles state_of files options bytes records recorders out error =
    DidNotCreate files.has_created files.cannot_create records out error
    ⊎ (DidNotStart out error ⊎ StreamsAndFails state_of files.begun options bytes records recorders out error)

-- The task of a command line is done on files of batches with these bytes. If a summary is printed, no line is shown.
abbrev pub IsTaskDone : {W : Type 0} → (W → SinkState) → NamedFiles → List (Option (List ℕ)) → CommandLine → Task → RunReport W
    → Written → Type 0
IsTaskDone state_of files bytes line task.Print report out =
    ArePrinted state_of files bytes line.options line.summary_to report.summary out
IsTaskDone state_of files bytes line task.Explain report out =
    IsReplayedWithExplanations line.options bytes out.before out.after
IsTaskDone state_of files bytes line (task.Summarize form top) report out =
    IsSummarized form top (options_quieted line.options) bytes out.before out.after
IsTaskDone state_of files bytes line (task.Stream records) report out =
    StreamsFiles state_of files.begun line.options bytes (texts records.items) report.recorders.items out.before out.after
IsTaskDone state_of files bytes line (task.Check replies) report out =
    ChecksFiles (λ count. count ≡ 0) files.contents line.options bytes (texts replies.items) out.before out.after

-- answers were compared, and there are differences
abbrev pub FindsDifferences : NamedFiles → List (Option (List ℕ)) → CommandLine → Task → Written → Type 0
FindsDifferences files bytes line (task.Check replies) out =
    ChecksFiles (λ count. count ≢ 0) files.contents line.options bytes (texts replies.items) out.before out.after
FindsDifferences files bytes line _ out = ⊥

-- the task of a command line has failed on files of batches with these bytes
abbrev pub TaskFails : {W : Type 0} → (W → SinkState) → NamedFiles → List (Option (List ℕ)) → CommandLine → Task → RunReport W
    → Written → Written → Type 0
TaskFails state_of files bytes line task.Print report out error =
    AreNotPrinted state_of files bytes line.options line.summary_to report.summary out error
TaskFails state_of files bytes line task.Explain report out error = FailsToExplain line.options bytes out error
TaskFails state_of files bytes line (task.Summarize form top) report out error =
    FailsToSummarize form top (options_quieted line.options) bytes out error
TaskFails state_of files bytes line (task.Stream records) report out error =
    FailsToStreamFiles state_of files line.options bytes (texts records.items) report.recorders.items out error
TaskFails state_of files bytes line (task.Check replies) report out error =
    FailsToCheck files line.options bytes (texts replies.items) out error

-- The output of a command line went where it says, and `Holds` is true of what was written there.
pub record OfOutput {W : Type 0} (state_of : W → SinkState) (files : NamedFiles) (line : CommandLine) (report : RunReport W)
    (standard : Written) (Holds : Written → Type 0) : Type 0 where
  pub out : Written
  pub goes_to : GoesTo state_of files.begun line.output report.output standard out
  pub holds : Holds out

-- the task of a command line is done
abbrev pub IsLineDone : {W : Type 0} → (W → SinkState) → NamedFiles → CommandLine → RunReport W → Written → Type 0
IsLineDone state_of files line report standard =
    OfOutput state_of files line report standard (IsTaskDone state_of files (bytes_of files line) line line.task report)

-- there are differences between the answers and the replies that a command line names
abbrev pub LineFindsDifferences : {W : Type 0} → (W → SinkState) → NamedFiles → CommandLine → RunReport W → Written → Type 0
LineFindsDifferences state_of files line report standard =
    OfOutput state_of files line report standard (FindsDifferences files (bytes_of files line) line line.task)

-- the file for the output can't be created, once all files of batches were opened
abbrev pub DidNotCreateOutput : NamedFiles → CommandLine → Written → Written → Type 0
DidNotCreateOutput files line standard error =
    All files.has_opened (texts line.files.items)
    × IsSomeAnd line.output (λ name. DidNotCreateFile files.cannot_create name.now Output standard error)

-- The command line failed: a file of batches was not opened, the file for the output was not created, the run did not start, or its task
-- failed.
abbrev pub LineFails : {W : Type 0} → (W → SinkState) → NamedFiles → CommandLine → RunReport W → Written → Written → Type 0
LineFails state_of files line report standard error =
    DidNotOpen files.has_opened files.cannot_open (texts line.files.items) standard error
    ⊎ (DidNotCreateOutput files line standard error
    ⊎ (DidNotStart standard error
    ⊎ OfOutput state_of files line report standard
    (λ out. TaskFails state_of files (bytes_of files line) line line.task report out error)))

-- The lines after the fixed lines of a failure: none without `--verbose`, and at most one with it.
abbrev pub SaysFurther : Bool → (List ℕ → Option (List ℕ)) → (List ℕ → Type 0) → CommandLine → Met → Written → Type 0
SaysFurther false contents cannot_open line met error =
    (error.after ≡ error.before) × (error.failures_after ≡ error.failures_before)
SaysFurther true contents cannot_open line met error =
    IsExplained contents cannot_open (texts line.files.items) line.options.limit met error

-- The lines about a command line that didn't fail: none without `--verbose`, and with it at most the line that all batches are held.
abbrev pub SaysIfHeld : Bool → (List ℕ → Option (List ℕ)) → List (List ℕ) → Written → Type 0
SaysIfHeld false contents names error = (error.after ≡ error.before) × (error.failures_after ≡ error.failures_before)
SaysIfHeld true contents names error = SaysHeld contents names error

-- A command line that didn't fail left standard error unchanged, or added the line that all batches are held.
pub record EndsQuietly (contents : List ℕ → Option (List ℕ)) (line : CommandLine) (error : Written) : Type 0 where
  pub given : Option (List ℕ)
  pub failures : ℕ
  pub kept : Keeps error.before given
  pub further : SaysIfHeld line.verbose contents (texts line.files.items) (written given error.after failures error.failures_after)

-- A command line has failed, and the failure was reported. `given` and `failures` are the state of standard error after the fixed lines.
pub record LineFailsAndSays {W : Type 0} (state_of : W → SinkState) (files : NamedFiles) (line : CommandLine) (report : RunReport W)
    (standard error : Written) : Type 0 where
  pub given : Option (List ℕ)
  pub failures : ℕ
  pub failed : LineFails state_of files line report standard (written error.before given error.failures_before failures)
  -- The stop and the version are those that a replay of these files met, and the last of the fixed lines names the stop. If the output
  -- failed, its writer failed.
  pub met :
      HasMet line.options (bytes_of files line) report.met
      (written error.before given error.failures_before failures)
  pub output_failed : report.met.output_failed ≡ true → OfOutput state_of files line report standard HasFailed
  pub further :
      SaysFurther line.verbose files.contents files.cannot_open line report.met
      (written given error.after failures error.failures_after)

-- the message about arguments that aren't text
abbrev pub not_text : List ℕ
not_text = codes "error: invalid UTF-8 was detected in one or more arguments\n\nUsage: replay [OPTIONS] <FILE>...\n\nFor more information, try '--help'.\n"

-- the arguments could not be read as text: nothing was printed, and the failure was reported
abbrev pub HasReadNoText : Written → Written → Type 0
HasReadNoText out error = (out.after ≡ out.before) × ReportsLine error not_text
