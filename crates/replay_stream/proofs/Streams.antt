-- What was read, sent, answered, printed and recorded of one proxy of a stream, put together.
use Rattle.std.specs.Prelude.{◌≡◌, ◌≢◌, ℕ, ℤ, Bool, true, false, ◌&&◌, List, [], ◌++◌, Option, None, Some, IfSome, option_to_list}
use Rattle.std.proofs.Common.{sym, ap, subst, ◌∙◌, append_assoc, append-nil, inl, inr}
use Rattle.std.proofs.lemmas.Bool.{false≢true, or_parts}
use Rattle.std.proofs.lemmas.Option.{none-some}
use Rattle.keyspace.specs.declared.batch.Batch.{Batch}
use Rattle.keyspace.specs.declared.answer.Answer.{Answer}
use Rattle.keyspace.specs.Run.{Step, run, answers, part}
use Rattle.lane.specs.Lane.{PortView, IntakeView, HasEnded}
use Rattle.serial.specs.Replies.{IsCommittedAt, ReportsCommitted}
use Rattle.resolver.specs.declared.turn.Account.{Account}
use Rattle.resolver.specs.Settled.{SettledFor}
use Rattle.replay_output.specs.declared.stream.AnswerError.TheVariants as answer
use Rattle.replay_stream.specs.declared.outlet.Outlet.{Outlet}
use Rattle.replay_stream.specs.declared.recorder.Recorder.{Recorder}
use Rattle.replay_stream.specs.Outlet.{is_complete, PassesOn, OutletContinues, HasPassedAll}
use Rattle.replay_stream.specs.Proxies.{AreEnds, AreNewEnds, GivenThreads, HasJoined, Joined, JoinsRecorder, SendsAll, client_of, failure_with}
use Rattle.replay_stream.specs.Recorder.{is_refused, unwritten_cause}
use Rattle.replay_stream.specs.Streaming.{HasRecords, IsStreamedFor, Recorded}
use Rattle.replay_stream.specs.Sinks.{SinkState}
use Rattle.replay_workers.proofs.callers.Lists.{both}
use Rattle.replay_workers.proofs.callers.Ending.{none_left}

-- the writer of a proxy with its recorder
abbrev pub recorded_of : {W : Type 0} → (W → SinkState) → Option W → Option (Recorder W) → Option Recorded
recorded_of state_of (Some out) (Some recorder) =
    Some (record { before = state_of out; after = state_of recorder.out; failure = recorder.failure })
recorded_of state_of (Some out) None = None
recorded_of state_of None recorder = None

-- the ends of a lane to a recorder stay its ends
pub ends_stay : (first new : Option (PortView Answer)) (answers : Option (IntakeView Answer)) (was waits : Option Answer)
    (taken : List Answer) → AreEnds first answers → PassesOn first new was waits taken → AreEnds new answers
ends_stay None None None was waits taken ends passed = tt
ends_stay None None (Some answers) was waits taken ends passed = absurd ends
ends_stay None (Some new) answers was waits taken ends passed = absurd passed
ends_stay (Some first) None answers was waits taken ends passed = absurd passed
ends_stay (Some first) (Some new) None was waits taken ends passed = absurd ends
ends_stay (Some first) (Some new) (Some answers) was waits taken ends passed =
    record { lane = passed.0.lane ∙ ends.lane; capacity = passed.0.capacity ∙ ends.capacity }

-- the ends of a new lane are ends
pub ends_new : (first : Option (PortView Answer)) (answers : Option (IntakeView Answer)) → AreNewEnds first answers → AreEnds first answers
ends_new None None ends = tt
ends_new None (Some answers) ends = absurd ends
ends_new (Some first) None ends = absurd ends
ends_new (Some first) (Some answers) ends = ends.0

module _ {W : Type 0} (state_of : W → SinkState) where
  -- the records are of what the outlet has passed on
  pub records_of_taken : (out : Option W) (given : Option (IntakeView Answer)) (first old new : Option (PortView Answer))
      (recorder : Option (Recorder W)) (waits : Option Answer) (taken : List Answer) → AreNewEnds first given
      → PassesOn first old None waits taken → waits ≡ None → JoinsRecorder state_of out given old new recorder
      → IfSome (recorded_of state_of out recorder) (HasRecords taken)
  records_of_taken None given first old new recorder waits taken ends passed none joins = tt
  records_of_taken (Some out) given first old new None waits taken ends passed none joins = tt
  records_of_taken (Some out) (Some given) (Some first) (Some old) (Some new) (Some recorder) waits taken ends passed none joins =
      let w = joins.3 in
      let sent : old.sent ≡ taken =
      sym (append-nil old.sent) ∙ ap (λ (o : Option Answer). old.sent ++ option_to_list o) (sym none) ∙ passed.1
      ∙ ap (λ (l : List Answer). (l ++ []) ++ taken) ends.1 in
      let all : taken ≡ w.written ++ w.dropped =
      sym sent ∙ sym joins.0 ∙ sym joins.2 ∙ w.taken ∙ ap (λ (l : List Answer). l ++ (w.written ++ w.dropped)) ends.2 in
      record {
        written = w.written;
        of_own = (w.dropped, all);
        all = λ entire. sym (append-nil w.written) ∙ ap (λ (l : List Answer). w.written ++ l) (sym (w.none_dropped entire)) ∙ sym all;
        given = w.records;
      }
  records_of_taken (Some out) None first old new (Some recorder) waits taken ends passed none joins = absurd joins
  records_of_taken (Some out) (Some given) None old new (Some recorder) waits taken ends passed none joins = absurd ends
  records_of_taken (Some out) (Some given) (Some first) None new (Some recorder) waits taken ends passed none joins = absurd passed
  records_of_taken (Some out) (Some given) (Some first) (Some old) None (Some recorder) waits taken ends passed none joins = absurd joins

  none_joined : (given : Option (IntakeView Answer)) (old new : Option (PortView Answer)) (recorder : Recorder W)
      → JoinsRecorder state_of None given old new (Some recorder) → ⊥
  none_joined None None None recorder joins = joins
  none_joined None None (Some new) recorder joins = joins
  none_joined None (Some old) new recorder joins = joins
  none_joined (Some given) old new recorder joins = joins

  no_write : (out : Option W) (given : Option (IntakeView Answer)) (old new : Option (PortView Answer))
      (recorder : Option (Recorder W)) → JoinsRecorder state_of out given old new recorder
      → unwritten_cause recorder ≡ Some answer.Write
      → IfSome (recorded_of state_of out recorder) (λ r. r.failure ≢ Some answer.Write) → ⊥
  no_write out given old new None joins failed written = none-some answer.Write failed
  no_write (Some out) given old new (Some recorder) joins failed written = written failed
  no_write None given old new (Some recorder) joins failed written = none_joined given old new recorder joins

  -- a proxy whose records could be written has sent all
  pub sends_all : (out : Option W) (given : Option (IntakeView Answer)) (old new : Option (PortView Answer))
      (joined : Joined W) → JoinsRecorder state_of out given old new joined.recorder → SendsAll joined
      → IfSome (recorded_of state_of out joined.recorder) (λ r. r.failure ≢ Some answer.Write) → joined.sent.unsent ≡ None
  sends_all out given old new joined joins (inl none) written = none
  sends_all out given old new joined joins (inr failed) written =
      absurd (no_write out given old new joined.recorder joins failed written)

  -- if nothing was lost, memory was refused for no record
  pub none_refused : (out : Option W) (recorder : Option (Recorder W)) → is_refused (unwritten_cause recorder) ≡ false
      → IfSome (recorded_of state_of out recorder) (λ r. r.failure ≢ Some answer.Memory)
  none_refused None recorder none = tt
  none_refused (Some out) None none = tt
  none_refused (Some out) (Some recorder) none = λ is. false≢true (sym none ∙ ap is_refused is)

  -- the outlet had taken nothing, and has printed these answers
  pub streamed_for : {S : Type 0} (remaining : S → Option (List ℕ)) (window : ℤ) (log : List Step) (ended all_sent has_failed : Bool)
      (answers_sent : List Answer) (account : Account) (proxy : ℕ) (threads : GivenThreads S W) (first old : Outlet)
      (joined : Joined W) (printed dropped : List Answer) → threads.requests.sent ≡ [] → first.replies.taken ≡ []
      → first.waiting ≡ None → AreNewEnds first.records threads.answers
      → OutletContinues printed dropped (is_complete first.lost false) (is_complete old.lost has_failed) first old → HasPassedAll old
      → HasJoined remaining state_of old threads joined
      → SettledFor window [] log ended answers_sent account proxy (client_of joined)
      → ((version : ℤ) (j : ℕ) → ReportsCommitted (client_of joined).replies.taken version j
      → IsCommittedAt (run window log).processed proxy version j)
      → (all_sent ≡ true → SendsAll joined) → (account.stop ≡ None → account.complete ≡ true)
      → IsStreamedFor threads.reports window log (account.complete && all_sent) has_failed account.stop (remaining threads.reader) proxy printed
      (failure_with joined) (recorded_of state_of threads.out joined.recorder)
  streamed_for {S} remaining window log ended all_sent has_failed answers_sent account proxy threads first old joined printed dropped
      none_sent none_taken none_waited ends goes passed has settled reported sent_all entire =
      let sends = has.sent.sends in
      let unsent = option_to_list joined.sent.unsent in
      let sent : joined.sent.requests.sent ≡ sends.batches =
      sends.sent ∙ ap (λ (l : List Batch). l ++ sends.batches) none_sent in
      let replies_are = ap (λ (o : Outlet). o.replies) has.outlet_is in
      let lost_is : joined.outlet.lost ≡ old.lost = ap (λ (o : Outlet). o.lost) has.outlet_is in
      let taken : joined.outlet.replies.taken ≡ printed ++ dropped =
      ap (λ (i : IntakeView Answer). i.taken) replies_are ∙ goes.taken ∙ ap (λ (l : List Answer). l ++ (printed ++ dropped)) none_taken in
      let has_ended : HasEnded joined.outlet.replies =
      subst (λ (i : IntakeView Answer). HasEnded i) (sym replies_are) passed.ended in
      record {
        read = sends.batches ++ unsent;
        left = sends.left;
        frames_read = sends.frames;
        batches = (
          settled.batches.0 ++ unsent,
          ap (λ (l : List Batch). l ++ unsent) (sym sent ∙ settled.batches.1)
              ∙ append_assoc (part log proxy) settled.batches.0 unsent,
        );
        all_batches = λ all written.
            let parts = both account.complete all_sent all in
            let none = sends_all threads.out threads.answers old.records joined.outlet.records joined has.recorder
            (sent_all parts.1) written in
            ap (λ (u : Option Batch). sends.batches ++ option_to_list u) none ∙ append-nil sends.batches ∙ sym sent
            ∙ sym (settled.all_batches (settled.all_ended parts.0));
        all_read = λ same no_fault.
            sends.all no_fault
            (none_left sends.batches (part log proxy) settled.batches.0 joined.sent.unsent (sym sent ∙ settled.batches.1) same);
        first_fault = sends.first_fault;
        taken = joined.outlet.replies.taken;
        received = settled.receives.received;
        all_received = λ no_stop. settled.receives.all_received (entire no_stop);
        all_before_last = λ before last is. settled.receives.all_before_last has_ended before last is;
        reported = reported;
        has_printed = (dropped, taken);
        all_printed = λ well not_lost.
            let parts = or_parts joined.outlet.lost _ not_lost in
            let stays : is_complete old.lost has_failed ≡ true =
            ap (λ (l : Bool). is_complete l has_failed) (sym lost_is ∙ parts.0) ∙ ap (is_complete false) well in
            sym (append-nil printed) ∙ ap (λ (l : List Answer). printed ++ l) (sym (goes.none_dropped stays)) ∙ sym taken;
        none_refused = λ not_lost. none_refused threads.out joined.recorder (or_parts joined.outlet.lost _ not_lost).1;
        records =
            subst (λ (l : List Answer). IfSome (recorded_of state_of threads.out joined.recorder) (HasRecords l)) (sym taken)
            (records_of_taken threads.out threads.answers first.records old.records joined.outlet.records joined.recorder old.waiting
            (printed ++ dropped) ends
            (subst (λ (w : Option Answer). PassesOn first.records old.records w old.waiting (printed ++ dropped)) none_waited goes.passed)
            passed.none_waits has.recorder);
      }
