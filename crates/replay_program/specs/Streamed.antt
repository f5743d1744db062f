-- What the program prints and records where answers are printed as they come. This project's own.
use Rattle.std.specs.Prelude.{◌≡◌, ℕ, ◌<◌, Bool, false, ◌⊎◌, ◌++◌, List, length, map, Option, Some, is_some, slice_get}
use Rattle.std.specs.List.{All}
use Rattle.std.specs.Io.KnownBytes.{Appends}
use Rattle.keyspace.specs.declared.answer.Answer.{Answer}
use Rattle.limits.specs.declared.stop.Stop.{Stop}
use Rattle.replay_output.specs.declared.failures.ProxyFailure.{ProxyFailure}
use Rattle.replay_output.specs.declared.options.style.Style.{Style}
use Rattle.replay_output.specs.declared.options.Options.{Options}
use Rattle.replay_output.specs.Failures.{failure_lines, NothingFailed}
use Rattle.replay_output.specs.Record.{answer_records}
use Rattle.replay_output.specs.Streamed.{Printed, printed_for, stream_text}
use Rattle.replay_output.specs.Unwritten.{unwritten_lines}
use Rattle.replay_stream.specs.declared.recorder.Recorder.{Recorder}
use Rattle.replay_stream.specs.Recorder.{is_unwritten, unwritten_cause}
use Rattle.replay_stream.specs.Sinks.{SinkState, Takes}
use Rattle.replay_stream.specs.Streaming.{HaveRecords, IsStreamed, Recorded, recorded_each}
use Rattle.replay_tasks.specs.Replayed.{DidNotStart, HasFailed, IsReplayedBy, Took, Written, ending_of}

-- The text is the lines of these answers, each if it is shown: those of each proxy are all of its answers, in order. The lines of
-- different proxies may alternate in any way.
pub record PrintsAll (style : Style) (answers : List (List Answer)) (text : List ℕ) : Type 0 where
  pub printed : List Printed
  pub known : All (λ (p : Printed). p.proxy < length answers) printed
  pub each :
      (proxy : ℕ) (own : List Answer) → slice_get answers proxy ≡ Some own → printed_for proxy printed ≡ own
  pub text_is : text ≡ stream_text style printed

-- each writer of records was given those of all answers to its proxy
abbrev pub RecordsAll : List (List Answer) → List (Option Recorded) → Type 0
RecordsAll answers recorded =
    (proxy : ℕ) (own : List Answer) (r : Recorded) → slice_get answers proxy ≡ Some own
    → slice_get recorded proxy ≡ Some (Some r) → Takes r.before r.after (answer_records own)

-- All was read and resolved. The lines of all answers that are shown were printed, and the records of all answers were written.
abbrev pub PrintsAndRecords : Options → List (Option (List ℕ)) → List (Option Recorded) → Option (List ℕ) → Option (List ℕ) → Type 0
PrintsAndRecords options files recorded before after =
    IsReplayedBy (λ answers. ((text : List ℕ) × PrintsAll options.style answers text × Appends before after text)
    × RecordsAll answers recorded) options files

-- The same of these writers of records, whose recorders have ended like this. A proxy has a recorder if it has a writer.
pub record IsStreamDone {W : Type 0} (state_of : W → SinkState) (options : Options) (files : List (Option (List ℕ)))
    (writers : List (Option W)) (recorders : List (Option (Recorder W))) (before after : Option (List ℕ)) : Type 0 where
  pub recorders_count : length recorders ≡ length files
  pub recorders_each : HaveRecords (map is_some writers) recorders
  pub entire : PrintsAndRecords options files (recorded_each state_of writers recorders) before after

-- of each proxy, whether a record of its answers could not be written
abbrev pub unwritten_each : {W : Type 0} → List (Option (Recorder W)) → List Bool
unwritten_each recorders = map (λ recorder. is_unwritten (unwritten_cause recorder)) recorders

-- what a writer reported before and after
abbrev pub state_before : Written → SinkState
state_before writer = record { given = writer.before; failures = writer.failures_before }

abbrev pub state_after : Written → SinkState
state_after writer = record { given = writer.after; failures = writer.failures_after }

-- The files were replayed, and something failed: a file, a line, a record, the run, or a write.
pub record StreamedAndFailed {W : Type 0} (state_of : W → SinkState) (options : Options) (files : List (Option (List ℕ)))
    (writers : List (Option W)) (recorders : List (Option (Recorder W))) (out error : Written) : Type 0 where
  pub recorders_count : length recorders ≡ length files
  pub recorders_each : HaveRecords (map is_some writers) recorders
  pub failed : Bool
  pub failures : List ProxyFailure
  pub complete : Bool
  pub stop : Option Stop
  pub run :
      IsStreamed options files (map is_some writers) (state_before out) (state_after out) failed failures
      (recorded_each state_of writers recorders) complete stop
  pub lines_of_failures :
      HasFailed error ⊎ Took error (unwritten_lines (unwritten_each recorders) ++ failure_lines failures (ending_of complete stop))
  pub why :
      (failed ≡ false → All (λ unwritten. unwritten ≡ false) (unwritten_each recorders)
      → NothingFailed failures (ending_of complete stop) → HasFailed error)

-- The program failed.
abbrev pub FailsToStream : {W : Type 0} → (W → SinkState) → Options → List (Option (List ℕ)) → List (Option W)
    → List (Option (Recorder W)) → Written → Written → Type 0
FailsToStream state_of options files writers recorders out error =
    DidNotStart out error ⊎ StreamedAndFailed state_of options files writers recorders out error
