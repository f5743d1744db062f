-- What the program prints, beside the bytes of its files. This project's own.
use Rattle.std.specs.Prelude.{◌≡◌, ℕ, ◌<◌, ℤ, Bool, if◌then◌else◌, ◌⊎◌, List, length, map, take, codes, Option, None, Some, IfSome, IsSomeAnd, slice_get, Contains}
use Rattle.std.specs.List.{range_with_len}
use Rattle.std.specs.Io.KnownBytes.{IsAtEnd, Appends}
use Rattle.keyspace.specs.declared.batch.Batch.{Batch}
use Rattle.keyspace.specs.declared.answer.Answer.{Answer}
use Rattle.keyspace.specs.declared.answer.Answer.TheVariants as answer
use Rattle.keyspace.specs.declared.reply.Reply.{Reply}
use Rattle.keyspace.specs.declared.reply.Entry.{Entry}
use Rattle.keyspace.specs.declared.reply.Verdict.TheVariants.{Committed}
use Rattle.keyspace.specs.Processed.{Processed}
use Rattle.keyspace.specs.Chain.{IsChain}
use Rattle.keyspace.specs.Run.{Step, run, answers, part}
use Rattle.serial.specs.Serial.{IsSerializable}
use Rattle.serial.specs.Replies.{IsSent, IsReplyTo, IsCommittedAt}
use Rattle.limits.specs.declared.stop.Stop.{Stop}
use Rattle.resolver.specs.Resolver.{TakesOnlyFrom, FinishesLast}
use Rattle.replay_output.specs.declared.options.form.Form.{Form}
use Rattle.replay_output.specs.declared.options.form.Form.TheVariants.{Words, Frames, Json, Kept}
use Rattle.replay_output.specs.declared.failures.Ending.{Ending}
use Rattle.replay_output.specs.declared.failures.Ending.TheVariants.{Complete, Incomplete, Stopped}
use Rattle.replay_output.specs.declared.failures.ProxyFailure.{ProxyFailure}
use Rattle.replay_output.specs.declared.line.Line.{Line}
use Rattle.replay_output.specs.declared.options.Options.{Options}
use Rattle.replay_output.specs.declared.options.reports.Reports.{Reports}
use Rattle.replay_output.specs.declared.start.StartError.{StartError}
use Rattle.replay_tasks.specs.Checked.{check_lines, differences_of}
use Rattle.replay_output.specs.Failures.{failure_lines, with_loss, NothingFailed}
use Rattle.replay_output.specs.Line.{TakesToSort, answers_of}
use Rattle.replay_output.specs.Lines.{lines, entry_word, entry_json}
use Rattle.replay_workers.specs.Run.{IsRun}
use Rattle.replay_output.specs.Start.{start_line}
use Rattle.replay_workers.specs.Reporting.{TakesFrames}

-- The bytes are the frames of some batches, each once, in order, and nothing else. These are the batches that are resolved for them.
pub record IsFileOf (reports : Reports) (bytes : Option (List ℕ)) (batches : List Batch) : Type 0 where
  pub left : Option (List ℕ)
  pub frames : TakesFrames reports bytes left batches
  pub at_end : IsAtEnd left

-- the answers of the reference resolver to this log, for each of n proxies
abbrev pub answers_each : ℤ → List Step → ℕ → List (List Answer)
answers_each window log proxies = map (answers window log) (range_with_len 0 proxies)

-- How the line of a reply, shown or not, says that the transaction of this entry was committed: by its word; in a frame, and in a
-- reply that is compared with a recorded one, by the verdict itself.
abbrev pub SaysCommitted : Form → Entry → Type 0
SaysCommitted Words entry = entry_word entry ≡ codes "committed"
SaysCommitted Json entry = entry_json entry ≡ codes "\"committed\""
SaysCommitted Frames entry = entry.verdict ≡ Committed
SaysCommitted Kept entry = entry.verdict ≡ Committed

-- Of these answers, one per line, one is to this proxy for its batch of this version, and says at this index that a transaction was
-- committed. Its line may be shown or not.
pub record LineSaysCommitted (form : Form) (answers : List (List Answer)) (proxy : ℕ) (version : ℤ) (index : ℕ) : Type 0 where
  pub reply : Reply
  pub of_proxy : IsSomeAnd (slice_get answers proxy) (λ own. Contains own (answer.Reply reply))
  pub at_version : reply.version ≡ version
  pub at_index : IsSomeAnd (slice_get reply.entries index) (SaysCommitted form)

-- All was read and resolved, and the text of the answers was printed. There is one log of the reference resolver that holds the batches of
-- each file once, in order, and no others. The text is of that log and its answers, as far as they are shown.
pub record IsReplayedOver (Printed : List Step → List (List Answer) → Type 0) (options : Options)
    (files : List (Option (List ℕ))) : Type 0 where
  pub log : List Step
  -- The transactions whose words say that they were committed can be run one at a time, in commit order, and each reads the same values as
  -- it did. The words say so of every committed transaction. They are those of all answers, whether or not their lines are shown.
  pub serializable : IsSerializable (run options.window log).processed
  pub each_word :
      (proxy : ℕ) (version : ℤ) (index : ℕ)
      → LineSaysCommitted options.style.form (answers_each options.window log (length files)) proxy version index
      → IsCommittedAt (run options.window log).processed proxy version index
  pub all_words :
      (proxy : ℕ) (version : ℤ) (index : ℕ) → IsCommittedAt (run options.window log).processed proxy version index
      → LineSaysCommitted options.style.form (answers_each options.window log (length files)) proxy version index
  pub proxies : TakesOnlyFrom (length files) log
  pub each_file :
      (proxy : ℕ) (bytes : Option (List ℕ)) → slice_get files proxy ≡ Some bytes →
      IsFileOf options.reports bytes (part log proxy)
  -- each processed batch is of its file, and each reply is that of one of them
  pub from_files :
      (index : ℕ) (entry : Processed) → slice_get (run options.window log).processed index ≡ Some entry
      → (entry.proxy < length files) × IsSent options.window log (part log entry.proxy) index entry
  pub replies :
      (proxy : ℕ) (reply : Reply) → Contains (answers options.window log proxy) (answer.Reply reply)
      → IsReplyTo options.window log proxy (part log proxy) reply
  -- what was processed follows the chain of versions
  pub chain : IsChain options.window (run options.window log).processed
  -- no batch is left unanswered
  pub finish : FinishesLast log
  pub printed : Printed log (answers_each options.window log (length files))

-- the same, if the text printed is of the answers alone
abbrev pub IsReplayedBy : (List (List Answer) → Type 0) → Options → List (Option (List ℕ)) → Type 0
IsReplayedBy Printed options files = IsReplayedOver (λ log answers. Printed answers) options files

-- all was read, resolved and printed: the text printed is the lines of the answers that are shown
abbrev pub IsReplayed : Options → List (Option (List ℕ)) → Option (List ℕ) → Option (List ℕ) → Type 0
IsReplayed options files before after =
    IsReplayedBy (λ answers. Appends before after (lines options.style answers)) options files

-- all was read, resolved and compared: the text printed is the lines of the differences, and their number is as said
abbrev pub IsChecked : (ℕ → Type 0) → List (List Reply) → Options → List (Option (List ℕ)) → Option (List ℕ) → Option (List ℕ)
    → Type 0
IsChecked HasCount recorded options files before after =
    IsReplayedBy (λ answers. Appends before after (check_lines recorded answers) × HasCount (differences_of recorded answers))
    options files

-- what became of a writer
pub record Written : Type 0 where
  -- the bytes that it was given, if it reports them
  pub before : Option (List ℕ)
  pub after : Option (List ℕ)
  -- how often it had failed, and has failed
  pub failures_before : ℕ
  pub failures_after : ℕ

abbrev pub written : Option (List ℕ) → Option (List ℕ) → ℕ → ℕ → Written
written before after failures_before failures_after = record {
  before = before;
  after = after;
  failures_before = failures_before;
  failures_after = failures_after;
}

abbrev pub HasFailed : Written → Type 0
HasFailed writer = writer.failures_before < writer.failures_after

-- it was given this text
abbrev pub Took : Written → List ℕ → Type 0
Took writer text = Appends writer.before writer.after text

-- a prefix of this text, if it still reports its bytes
abbrev pub TookPrefix : Written → List ℕ → Type 0
TookPrefix writer text = IfSome writer.after (λ _. (n : ℕ) × Took writer (take n text))

-- how a run ends that is complete or not, and that met a stop or none
abbrev pub ending_of : Bool → Option Stop → Ending
ending_of complete None = if complete then Complete else Incomplete
ending_of complete (Some stop) = Stopped stop

-- the run could not start: nothing was printed, and the cause was reported
pub record DidNotStart (out error : Written) : Type 0 where
  pub cause : StartError
  pub nothing_printed : out.after ≡ out.before
  pub reported : HasFailed error ⊎ Took error (start_line cause)

-- the same failures, with the loss of one of n proxies, for which memory is taken
abbrev pub IsWithLoss : ℕ → (ℕ → Type 0) → List ProxyFailure → List ProxyFailure → Type 0
IsWithLoss proxies Takes failures reported =
    (proxy : ℕ) × (proxy < proxies) × Takes proxy × (reported ≡ with_loss proxy failures)

-- what is said of a run: of the lines and the failures of each proxy, whether it is complete, and the stop that it met
abbrev pub OfRun : Type 1
OfRun = List (List Line) → List ProxyFailure → Bool → Option Stop → Type 0

-- The files of n proxies were replayed, and something failed. `Ran` says what became of the files. `text` is the text of the answers, and
-- `Takes` says for which proxies' lines it takes memory. `reported` has the failures, with the loss of a proxy whose lines could not be
-- sorted or explained, whose replies could not be compared, or that is the last to be summarized. With such a loss nothing was printed.
pub record RanAndFailed (Ran : OfRun) (text : List (List Answer) → List ℕ) (Takes : List (List Line) → ℕ → Type 0) (proxies : ℕ)
    (out error : Written) : Type 0 where
  pub received : List (List Line)
  pub failures : List ProxyFailure
  pub complete : Bool
  pub stop : Option Stop
  pub run : Ran received failures complete stop
  pub reported : List ProxyFailure
  pub failures_reported : (reported ≡ failures) ⊎ IsWithLoss proxies (Takes received) failures reported
  pub printed :
      (HasFailed out × TookPrefix out (text (map answers_of received)))
      ⊎ (((reported ≡ failures) × Took out (text (map answers_of received)))
      ⊎ (IsWithLoss proxies (Takes received) failures reported × (out.after ≡ out.before)))
  pub lines_of_failures : HasFailed error ⊎ Took error (failure_lines reported (ending_of complete stop))
  pub why : HasFailed out ⊎ (HasFailed error ⊎ ¬ (NothingFailed reported (ending_of complete stop)))

-- the program failed, which was to print this text of the answers, and takes memory for it where `Takes` says so
abbrev pub FailsToPrint : (List (List Answer) → List ℕ) → (List (List Line) → ℕ → Type 0) → Options
    → List (Option (List ℕ)) → Written → Written → Type 0
FailsToPrint text Takes options files out error =
    DidNotStart out error ⊎ RanAndFailed (IsRun options files) text Takes (length files) out error

-- The program failed.
abbrev pub FailsToReplay : Options → List (Option (List ℕ)) → Written → Written → Type 0
FailsToReplay options files out error = FailsToPrint (lines options.style) TakesToSort options files out error
