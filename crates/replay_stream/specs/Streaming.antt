-- A stream, beside the reference resolver: what was read of each file, what was printed, and what was recorded. This project's own.
use Rattle.std.specs.Prelude.{◌≡◌, ◌≢◌, ℕ, ◌<◌, ℤ, Bool, true, false, List, [], ◌∷◌, ◌++◌, length, Option, None, Some, IfSome, is_some, slice_get}
use Rattle.std.specs.List.{All}
use Rattle.std.specs.Io.KnownBytes.{IsAtEnd}
use Rattle.keyspace.specs.declared.batch.Batch.{Batch}
use Rattle.keyspace.specs.declared.answer.Answer.{Answer}
use Rattle.keyspace.specs.Chain.{IsChain}
use Rattle.keyspace.specs.Run.{Step, run, answers, part}
use Rattle.serial.specs.Serial.{IsSerializable}
use Rattle.serial.specs.Replies.{IsCommittedAt, ReportsCommitted}
use Rattle.wire.specs.declared.error.WireError.TheVariants as wire
use Rattle.wire.specs.NextFrame.{IsFaultOf}
use Rattle.limits.specs.declared.stop.Stop.{Stop}
use Rattle.resolver.specs.Core.{IsPrefix}
use Rattle.resolver.specs.Resolver.{TakesOnlyFrom, FinishesLast}
use Rattle.replay_output.specs.declared.failures.ProxyFailure.{ProxyFailure}
use Rattle.replay_output.specs.declared.options.Options.{Options}
use Rattle.replay_output.specs.declared.options.reports.Reports.{Reports}
use Rattle.replay_output.specs.declared.stream.AnswerError.{AnswerError}
use Rattle.replay_output.specs.declared.stream.AnswerError.TheVariants as answer
use Rattle.replay_output.specs.Streamed.{Printed, printed_for, stream_text}
use Rattle.replay_stream.specs.Recorder.{TookRecords}
use Rattle.replay_stream.specs.declared.recorder.Recorder.{Recorder}
use Rattle.replay_stream.specs.Outlet.{TookText}
use Rattle.replay_stream.specs.Sinks.{SinkState}
use Rattle.replay_workers.specs.Stops.{IsStopOf}
use Rattle.replay_workers.specs.Reporting.{TakesFrames}

-- the writer of a proxy's records: what it reported before and after, and why a record was not written
pub record Recorded : Type 0 where
  pub before : SinkState
  pub after : SinkState
  pub failure : Option AnswerError

-- the writers of a run, at its begin and with their recorders at its end
abbrev pub recorded_each : {W : Type 0} → (W → SinkState) → List (Option W) → List (Option (Recorder W)) → List (Option Recorded)
recorded_each state_of [] recorders = []
recorded_each state_of (out ∷ outs) [] = []
recorded_each state_of (Some out ∷ outs) (Some recorder ∷ recorders) =
    Some (record { before = state_of out; after = state_of recorder.out; failure = recorder.failure })
    ∷ recorded_each state_of outs recorders
recorded_each state_of (Some out ∷ outs) (None ∷ recorders) = None ∷ recorded_each state_of outs recorders
recorded_each state_of (None ∷ outs) (recorder ∷ recorders) = None ∷ recorded_each state_of outs recorders

-- The records that were written are those of the first answers, in order and once; of all answers unless a record could not be
-- written.
pub record HasRecords (own : List Answer) (recorded : Recorded) : Type 0 where
  pub written : List Answer
  pub of_own : IsPrefix written own
  pub all : recorded.failure ≡ None → written ≡ own
  pub given : TookRecords recorded.failure recorded.before recorded.after written

-- What became of one proxy: its batches, its answers, which of them were printed, and which were recorded.
pub record IsStreamedFor (reports : Reports) (window : ℤ) (log : List Step) (complete failed : Bool) (stop : Option Stop)
    (bytes : Option (List ℕ)) (proxy : ℕ) (printed : List Answer) (failure : ProxyFailure) (recorded : Option Recorded) : Type 0 where
  -- these batches are resolved for those that were read, from the frames at the front, and these bytes are left
  pub read : List Batch
  pub left : Option (List ℕ)
  pub frames_read : TakesFrames reports bytes left read
  -- the log holds them once, in order; all of them if all is complete and the writer of records hasn't failed, whatever fault the
  -- file has
  pub batches : IsPrefix (part log proxy) read
  pub all_batches :
      complete ≡ true → IfSome recorded (λ r. r.failure ≢ Some answer.Write) → read ≡ part log proxy
  -- if the log holds all that was read, reading ended at the file's end or at its fault
  pub all_read : read ≡ part log proxy → failure.fault ≡ None → IsAtEnd left
  -- a fault other than these two is that of the bytes left
  pub first_fault : IfSome failure.fault (λ e. e ≢ wire.Memory → e ≢ wire.Read → IfSome left (IsFaultOf e))
  -- the answers that were taken are those of the reference resolver, in order and once; all of them if no stop was met
  pub taken : List Answer
  pub received : IsPrefix taken (answers window log proxy)
  pub all_received : stop ≡ None → taken ≡ answers window log proxy
  pub all_before_last :
      (before : List Step) (last : Step) → log ≡ before ++ last ∷ [] → IsPrefix (answers window before proxy) taken
  -- a transaction that they report as committed is committed
  pub reported :
      (version : ℤ) (j : ℕ) → ReportsCommitted taken version j
      → IsCommittedAt (run window log).processed proxy version j
  -- the first of them were printed, in order and once; all of them unless a line was lost or standard output has failed
  pub has_printed : IsPrefix printed taken
  pub all_printed : failed ≡ false → failure.lost ≡ false → printed ≡ taken
  pub records : IfSome recorded (HasRecords taken)
  -- a record for which memory was refused is a loss
  pub none_refused : failure.lost ≡ false → IfSome recorded (λ r. r.failure ≢ Some answer.Memory)

-- Of some file, a batch was read that the log doesn't take: it was the last that was read, and was not sent. The log holds those before
-- it.
pub record LeavesLast (reports : Reports) (files : List (Option (List ℕ))) (log : List Step) : Type 0 where
  pub proxy : ℕ
  pub bytes : Option (List ℕ)
  pub of_proxy : slice_get files proxy ≡ Some bytes
  pub batch : Batch
  pub left : Option (List ℕ)
  pub read : TakesFrames reports bytes left (part log proxy ++ batch ∷ [])

-- the proxies that have a writer of records have one of these, and no others
abbrev pub HaveRecords : {X : Type 0} → List Bool → List (Option X) → Type 0
HaveRecords {X} has_writer recorded =
    (proxy : ℕ) (has : Bool) (r : Option X) → slice_get has_writer proxy ≡ Some has → slice_get recorded proxy ≡ Some r
    → is_some r ≡ has

-- What became of all files, whose readers reported these bytes, beside one log of the reference resolver. `printed` is the answers
-- in the order of their lines. `failures` and `recorded` are of each proxy, at its number, and so is whether it has a writer of records.
pub record IsStreamed (options : Options) (files : List (Option (List ℕ))) (has_writer : List Bool) (before after : SinkState)
    (failed : Bool) (failures : List ProxyFailure) (recorded : List (Option Recorded)) (complete : Bool) (stop : Option Stop) : Type 0 where
  pub log : List Step
  pub printed : List Printed
  pub proxies : TakesOnlyFrom (length files) log
  pub failures_count : length failures ≡ length files
  pub recorded_count : length recorded ≡ length files
  pub writers : HaveRecords has_writer recorded
  pub known : All (λ (p : Printed). p.proxy < length files) printed
  pub each :
      (proxy : ℕ) (bytes : Option (List ℕ)) (failure : ProxyFailure) (r : Option Recorded) →
      slice_get files proxy ≡ Some bytes → slice_get failures proxy ≡ Some failure → slice_get recorded proxy ≡ Some r →
      IsStreamedFor options.reports options.window log complete failed stop bytes proxy (printed_for proxy printed) failure r
  -- standard output was given the lines of the printed answers, as far as they are shown, or a prefix of these lines if it has failed
  pub text : TookText failed before after (stream_text options.style printed)
  -- what was processed follows the chain of versions
  pub chain : IsChain options.window (run options.window log).processed
  -- so what was committed can be run one transaction at a time, in the order of commit, and each reads what it has read
  pub serializable : IsSerializable (run options.window log).processed
  -- if no stop was met, no batch is left unanswered
  pub finish : stop ≡ None → FinishesLast log
  -- if all is complete, no stop was met; if neither is so, a batch that was read was not sent
  pub no_stop : complete ≡ true → stop ≡ None
  pub incomplete : complete ≡ false → stop ≡ None → LeavesLast options.reports files log
  -- the stop is that of the log
  pub met : IfSome stop (IsStopOf options.limit options.window log)
