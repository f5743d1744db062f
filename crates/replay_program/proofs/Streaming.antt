-- What was streamed, from what was run.
use Rattle.std.specs.Prelude.{◌≡◌, ◌≢◌, ◌↔◌, ℕ, zero, suc, ◌+◌, ◌<◌, Bool, false, ◌⊎◌, List, [], ◌∷◌, ◌++◌, length, map, Option, Some, None, IfSome, IsErr, IsOk, IsTrue, OnOk, Result, Ok, Err, is_some, slice_get}
use Rattle.std.specs.List.{All, range_with_len}
use Rattle.std.specs.Io.KnownBytes.{Appends, Keeps}
use Rattle.std.proofs.Common.{refl, sym, ap, subst, ◌∙◌, append-nil, inl, inr, arith}
use Rattle.std.proofs.lemmas.Bool.{false≢true}
use Rattle.std.proofs.lemmas.List.Elements.{All-head, All-tail}
use Rattle.std.proofs.lemmas.Option.{none-some, same_Some}
use Rattle.keyspace.specs.declared.answer.Answer.{Answer}
use Rattle.keyspace.specs.declared.batch.Batch.{Batch}
use Rattle.keyspace.specs.Run.{answers, part}
use Rattle.serial.specs.Replies.{AnswersReportVerdicts}
use Rattle.limits.specs.declared.stop.Stop.{Stop}
use Rattle.wire.proofs.callers.Given.{appends_nothing}
use Rattle.replay_output.specs.declared.failures.Ending.{Ending}
use Rattle.replay_output.specs.declared.failures.ProxyFailure.{ProxyFailure}
use Rattle.replay_output.specs.declared.options.Options.{Options}
use Rattle.replay_output.specs.declared.stream.AnswerError.{AnswerError}
use Rattle.replay_output.specs.declared.stream.AnswerError.TheVariants.{Memory, Write}
use Rattle.replay_output.specs.Failures.{IsClean, NothingFailed, failure_lines}
use Rattle.replay_output.specs.Record.{answer_records}
use Rattle.replay_output.specs.Streamed.{stream_text}
use Rattle.replay_output.specs.Unwritten.{unwritten_lines}
use Rattle.replay_output.proofs.callers.Quiet.{no_lines, no_unwritten_lines}
use Rattle.replay_stream.specs.declared.recorder.Recorder.{Recorder}
use Rattle.replay_stream.specs.Outlet.{TookText}
use Rattle.replay_stream.specs.Recorder.{TookRecords, is_unwritten, unwritten_cause}
use Rattle.replay_stream.specs.Sinks.{SinkState, Takes}
use Rattle.replay_stream.specs.Streaming.{HasRecords, HaveRecords, IsStreamed, Recorded, recorded_each}
use Rattle.replay_workers.specs.Reporting.{TakesFrames}
use Rattle.replay_workers.proofs.callers.Lists.{all_at, found}
use Rattle.replay_tasks.specs.declared.met.Met.{Met}
use Rattle.replay_tasks.specs.Met.{HasMet, MetStop, ReportsStop}
use Rattle.replay_tasks.specs.Replayed.{HasFailed, Took, Written, ending_of}
use Rattle.replay_program.specs.Streamed.{IsStreamDone, StreamedAndFailed, state_after, state_before, unwritten_each}
use Rattle.replay_tasks.proofs.callers.Replaying.{complete_from}
use Rattle.replay_tasks.proofs.callers.Reporting.{all_said, each_said, from_one, value_at}

not_write : (f : Option AnswerError) → is_unwritten f ≡ false → f ≢ Some Write
not_write f none is = false≢true (sym none ∙ ap is_unwritten is)

no_failure : (f : Option AnswerError) → f ≢ Some Memory → f ≢ Some Write → f ≡ None
no_failure None memory write = refl
no_failure (Some Memory) memory write = absurd (memory refl)
no_failure (Some Write) memory write = absurd (write refl)

-- the same of equal lists
pub reported_as : {T E : Type 0} (reported : Result T E) (error : Written) (us unwritten : List Bool) (fs failures : List ProxyFailure)
    (e ending : Ending) → us ≡ unwritten → fs ≡ failures → e ≡ ending
    → OnOk reported (Appends error.before error.after (unwritten_lines us ++ failure_lines fs e))
    → OnOk reported (Took error (unwritten_lines unwritten ++ failure_lines failures ending))
reported_as reported error us unwritten fs failures e ending u f n holds =
    subst (λ (e : Ending). OnOk reported (Took error (unwritten_lines unwritten ++ failure_lines failures e))) n
    (subst (λ (l : List ProxyFailure). OnOk reported (Took error (unwritten_lines unwritten ++ failure_lines l e))) f
    (subst (λ (l : List Bool). OnOk reported (Took error (unwritten_lines l ++ failure_lines fs e))) u holds))

pub clean_as : (is_clean : Bool) (us unwritten : List Bool) (fs failures : List ProxyFailure) (e ending : Ending) → us ≡ unwritten
    → fs ≡ failures → e ≡ ending → (IsTrue is_clean ↔ (All (λ failed. failed ≡ false) us × NothingFailed fs e))
    → (IsTrue is_clean ↔ (All (λ failed. failed ≡ false) unwritten × NothingFailed failures ending))
clean_as is_clean us unwritten fs failures e ending u f n same =
    subst (λ (e : Ending). IsTrue is_clean ↔ (All (λ failed. failed ≡ false) unwritten × NothingFailed failures e)) n
    (subst (λ (l : List ProxyFailure). IsTrue is_clean ↔ (All (λ failed. failed ≡ false) unwritten × NothingFailed l e)) f
    (subst (λ (l : List Bool). IsTrue is_clean ↔ (All (λ failed. failed ≡ false) l × NothingFailed fs e)) u same))

-- where nothing failed, standard error was given nothing
pub keeps_error : (old new : Option (List ℕ)) (unwritten : List Bool) (failures : List ProxyFailure) (ending : Ending)
    → All (λ failed. failed ≡ false) unwritten → NothingFailed failures ending
    → Appends old new (unwritten_lines unwritten ++ failure_lines failures ending) → Keeps old new
keeps_error old new unwritten failures ending all nothing appends =
    let none : unwritten_lines unwritten ++ failure_lines failures ending ≡ [] =
    ap (λ l. l ++ failure_lines failures ending) (no_unwritten_lines 0 unwritten all) ∙ no_lines failures ending nothing in
    appends_nothing old new (subst (Appends old new) none appends)

-- if all records were written, no writer of records has failed
pub none_unwritten : {W : Type 0} (state_of : W → SinkState) (outs : List (Option W)) (recorders : List (Option (Recorder W)))
    → All (λ failed. failed ≡ false) (map (λ (r : Option (Recorder W)). is_unwritten (unwritten_cause r)) recorders)
    → (place : ℕ) (r : Option Recorded) → slice_get (recorded_each state_of outs recorders) place ≡ Some r
    → IfSome r (λ r. r.failure ≢ Some Write)
none_unwritten state_of [] recorders all place r at = absurd (none-some r at)
none_unwritten state_of (o ∷ outs) [] all place r at = absurd (none-some r at)
none_unwritten {W} state_of (Some o ∷ outs) (Some q ∷ recorders) all zero r at =
    subst (λ (r : Option Recorded). IfSome r (λ r. r.failure ≢ Some Write)) (same_Some _ r at)
    (not_write q.failure (All-head (λ failed. failed ≡ false) (is_unwritten q.failure)
    (map (λ (r : Option (Recorder W)). is_unwritten (unwritten_cause r)) recorders) all))
none_unwritten state_of (Some o ∷ outs) (None ∷ recorders) all zero r at =
    subst (λ (r : Option Recorded). IfSome r (λ r. r.failure ≢ Some Write)) (same_Some None r at) tt
none_unwritten state_of (None ∷ outs) (q ∷ recorders) all zero r at =
    subst (λ (r : Option Recorded). IfSome r (λ r. r.failure ≢ Some Write)) (same_Some None r at) tt
none_unwritten {W} state_of (Some o ∷ outs) (Some q ∷ recorders) all (suc place) r at =
    none_unwritten state_of outs recorders (All-tail (λ failed. failed ≡ false) (is_unwritten q.failure)
    (map (λ (r : Option (Recorder W)). is_unwritten (unwritten_cause r)) recorders) all) place r at
none_unwritten {W} state_of (Some o ∷ outs) (None ∷ recorders) all (suc place) r at =
    none_unwritten state_of outs recorders (All-tail (λ failed. failed ≡ false) false
    (map (λ (r : Option (Recorder W)). is_unwritten (unwritten_cause r)) recorders) all) place r at
none_unwritten {W} state_of (None ∷ outs) (q ∷ recorders) all (suc place) r at =
    none_unwritten state_of outs recorders (All-tail (λ failed. failed ≡ false) (is_unwritten (unwritten_cause q))
    (map (λ (r : Option (Recorder W)). is_unwritten (unwritten_cause r)) recorders) all) place r at

answers_count : (F : ℕ → List Answer) (first n : ℕ) → length (map F (range_with_len first n)) ≡ n
answers_count F first zero = refl
answers_count F first (suc n) =
    let rest = answers_count F (first + 1) n in
    omega (arith, rest)

-- all answers were taken, and no record failed: those of all were written
all_recorded : (taken own : List Answer) (r : Recorded) → HasRecords taken r → taken ≡ own → r.failure ≢ Some Memory
    → r.failure ≢ Some Write → Takes r.before r.after (answer_records own)
all_recorded taken own r has same memory write =
    let none = no_failure r.failure memory write in
    subst (λ (l : List Answer). Takes r.before r.after (answer_records l)) (has.all none ∙ same)
    (subst (λ (f : Option AnswerError). TookRecords f r.before r.after has.written) none has.given)

module _ {W : Type 0} (state_of : W → SinkState) (options : Options) (files : List (Option (List ℕ))) (writers : List (Option W))
    (recorders : List (Option (Recorder W))) (before after : SinkState) (failed : Bool) (failures : List ProxyFailure)
    (complete : Bool) (stop : Option Stop)
    (run : IsStreamed options files (map is_some writers) before after failed failures (recorded_each state_of writers recorders) complete stop)
    (count : length recorders ≡ length files) (each : HaveRecords (map is_some writers) recorders) where
  abbrev recorded : List (Option Recorded)
  recorded = recorded_each state_of writers recorders

  pub is_stream_done : AnswersReportVerdicts → NothingFailed failures (ending_of complete stop) → failed ≡ false
      → All (λ failed. failed ≡ false) (unwritten_each recorders)
      → IsStreamDone state_of options files writers recorders before.given after.given
  is_stream_done known_verdicts nothing well all_written =
      let entire = complete_from complete stop nothing.complete in
      let proxies = length files in
      let written = none_unwritten state_of writers recorders all_written in
      record {
        recorders_count = count;
        recorders_each = each;
        entire = record {
          log = run.log;
          proxies = run.proxies;
          each_file = λ proxy bytes at.
              let failure = found files failures proxy bytes run.failures_count at in
              let r = found files recorded proxy bytes run.recorded_count at in
              let clean = all_at IsClean failures proxy failure.0 nothing.proxies failure.1 in
              let one = run.each proxy bytes failure.0 r.0 at failure.1 r.1 in
              let all = one.all_batches entire (written proxy r.0 r.1) in
              record {
                left = one.left;
                frames = subst (λ (l : List Batch). TakesFrames options.reports bytes one.left l) all one.frames_read;
                at_end = one.all_read all clean.0;
              };
          chain = run.chain;
          serializable = run.serializable;
          from_files = from_one options.window run.log proxies run.proxies known_verdicts options.style.form;
          replies = λ proxy.
              let own = part run.log proxy in
              known_verdicts.replies options.window run.log proxy own [] (sym (append-nil own));
          each_word = each_said options.window run.log proxies run.proxies known_verdicts options.style.form;
          all_words = all_said options.window run.log proxies run.proxies known_verdicts options.style.form;
          finish = run.finish (run.no_stop entire);
          printed = (
            (
              stream_text options.style run.printed,
              record {
                printed = run.printed;
                known =
                    subst (λ (n : ℕ). All (λ p. p.proxy < n) run.printed) (sym (answers_count (answers options.window run.log) 0 proxies))
                    run.known;
                each = λ proxy own at.
                    let is = value_at (answers options.window run.log) 0 proxies proxy own at in
                    let f = found _ files proxy own (sym (answers_count (answers options.window run.log) 0 proxies)) at in
                    let failure = found files failures proxy f.0 run.failures_count f.1 in
                    let r = found files recorded proxy f.0 run.recorded_count f.1 in
                    let clean = all_at IsClean failures proxy failure.0 nothing.proxies failure.1 in
                    let one = run.each proxy f.0 failure.0 r.0 f.1 failure.1 r.1 in
                    one.all_printed well clean.1 ∙ one.all_received (run.no_stop entire)
                    ∙ ap (answers options.window run.log) (omega arith) ∙ sym is;
                text_is = refl;
              },
              (subst (λ (failed : Bool). TookText failed before after (stream_text options.style run.printed)) well run.text).0,
            ),
            λ proxy own r at r_at.
                let is = value_at (answers options.window run.log) 0 proxies proxy own at in
                let f = found _ files proxy own (sym (answers_count (answers options.window run.log) 0 proxies)) at in
                let failure = found files failures proxy f.0 run.failures_count f.1 in
                let clean = all_at IsClean failures proxy failure.0 nothing.proxies failure.1 in
                let one = run.each proxy f.0 failure.0 (Some r) f.1 failure.1 r_at in
                let same = one.all_received (run.no_stop entire) ∙ ap (answers options.window run.log) (omega arith) ∙ sym is in
                all_recorded one.taken own r one.records same (one.none_refused clean.1) (written proxy (Some r) r_at),
          );
        };
      }

  -- the lines on standard error, and why it failed
  pub streamed_and_failed : {T E : Type 0} (out error : Written) (reported : Result T E) → before ≡ state_before out
      → after ≡ state_after out
      → OnOk reported (Took error (unwritten_lines (unwritten_each recorders) ++ failure_lines failures (ending_of complete stop)))
      → (IsErr reported → HasFailed error)
      → ¬ ((All (λ failed. failed ≡ false) (unwritten_each recorders) × NothingFailed failures (ending_of complete stop))
      × (failed ≡ false) × IsOk reported)
      → StreamedAndFailed state_of options files writers recorders out error
  streamed_and_failed {T} {E} out error reported is_before is_after lines error_failed not_done = record {
    recorders_count = count;
    recorders_each = each;
    failed = failed;
    failures = failures;
    complete = complete;
    stop = stop;
    run =
        subst (λ (s : SinkState). IsStreamed options files (map is_some writers) (state_before out) s failed failures recorded complete stop)
        is_after
        (subst (λ (s : SinkState). IsStreamed options files (map is_some writers) s after failed failures recorded complete stop)
        is_before run);
    lines_of_failures = reported_of reported lines error_failed;
    why = λ well written nothing. why_of reported error_failed (λ ok. not_done ((written, nothing), well, ok));
  }
    where
      reported_of : (reported : Result T E)
          → OnOk reported (Took error (unwritten_lines (unwritten_each recorders) ++ failure_lines failures (ending_of complete stop)))
          → (IsErr reported → HasFailed error)
          → HasFailed error
          ⊎ Took error (unwritten_lines (unwritten_each recorders) ++ failure_lines failures (ending_of complete stop))
      reported_of (Ok u) took failed = inr took
      reported_of (Err e) took failed = inl (failed refl)

      why_of : (reported : Result T E) → (IsErr reported → HasFailed error) → (IsOk reported → ⊥) → HasFailed error
      why_of (Ok u) failed not_ok = absurd (not_ok refl)
      why_of (Err e) failed not_ok = failed refl

-- what a run met whose answers were printed as they came: its version isn't known
pub stream_has_met : (options : Options) (files : List (Option (List ℕ))) (has_writer : List Bool) (before after : SinkState)
    (failed : Bool) (failures : List ProxyFailure) (recorded : List (Option Recorded)) (complete : Bool) (stop : Option Stop)
    (error : Written) → IsStreamed options files has_writer before after failed failures recorded complete stop
    → ((s : Stop) → stop ≡ Some s → ReportsStop s error)
    → HasMet options files (record { stop = stop; version = None; output_failed = failed }) error
stream_has_met options files has_writer before after failed failures recorded complete None error streamed reported = tt
stream_has_met options files has_writer before after failed failures recorded complete (Some s) error streamed reported =
    let met : MetStop options files s None = record {
      log = streamed.log;
      proxies = streamed.proxies;
      each_file = λ proxy bytes at.
          let failure = found files failures proxy bytes streamed.failures_count at in
          let r = found files recorded proxy bytes streamed.recorded_count at in
          let one = streamed.each proxy bytes failure.0 r.0 at failure.1 r.1 in
          (one.read, one.left, one.frames_read, one.batches);
      met = streamed.met;
      reached = tt;
    } in
    (met, reported s refl)
