-- What was joined of a proxy, and the outcome with it.
use Rattle.std.specs.Prelude.{◌≡◌, Bool, true, false, List, [], ◌∷◌, ◌++◌, length, Option, None, Some, slice_get}
use Rattle.std.proofs.Common.{refl, sym, ap, subst, ◌∙◌, append-nil, length-append, arith}
use Rattle.std.proofs.lemmas.Bool.{false≢true}
use Rattle.std.proofs.lemmas.List.{map-append}
use Rattle.std.proofs.lemmas.List.Elements.{All-push}
use Rattle.keyspace.specs.declared.answer.Answer.{Answer}
use Rattle.keyspace.specs.declared.batch.Batch.{Batch}
use Rattle.lane.specs.Lane.{HasEnded, IntakeContinues, IntakeView, Lane, PortView, SameLane}
use Rattle.replay_output.specs.declared.stream.AnswerError.{AnswerError}
use Rattle.replay_stream.specs.declared.recorder.Recorder.{Recorder}
use Rattle.replay_stream.specs.declared.streamed.Streamed.{Streamed}
use Rattle.replay_stream.specs.Proxies.{AreEnds, IsStreamedOf, Joined, JoinsRecorder, LeavesUnsent, SendsAll, client_of, failure_with}
use Rattle.replay_stream.specs.Recorder.{HasRecorded, WritesRecords, is_unwritten, unwritten_cause}
use Rattle.replay_stream.specs.Sinks.{SinkState}
use Rattle.replay_workers.proofs.callers.Lists.{at_also, at_last}

-- what follows some items is at the place of their number
pub at_middle : {X : Type 0} (done rest : List X) (x : X) → slice_get (done ++ x ∷ rest) (length done) ≡ Some x
at_middle [] rest x = refl
at_middle (d ∷ done) rest x = at_middle done rest x

-- an intake that has ended has taken all that was sent
pub all_taken : {T : Type 0} (port : PortView T) (intake : IntakeView T) → Lane port intake → HasEnded intake
    → intake.taken ≡ port.sent
all_taken {T} port intake lane ended =
    let seen = lane.all_seen ended.close in
    entire lane.in_order.0 lane.in_order.1
    (omega (arith, seen, ended.all, ap length lane.in_order.1, length-append intake.taken lane.in_order.0))
  where
    entire : (rest : List T) → port.sent ≡ intake.taken ++ rest → length rest ≡ 0 → intake.taken ≡ port.sent
    entire [] is none = sym (append-nil intake.taken) ∙ sym is
    entire (x ∷ rest) is none = absurd (omega (arith, none))

-- the intake that a recorder returns is still that of its lane
pub still_ends : {T : Type 0} (port : PortView T) (given now : IntakeView T) → SameLane port given → IntakeContinues given now
    → SameLane port now
still_ends port given now same goes =
    record { lane = same.lane ∙ sym goes.lane; capacity = same.capacity ∙ sym goes.capacity }

-- a proxy without a recorder
pub joins_nothing : {W : Type 0} (state_of : W → SinkState) (records : Option (PortView Answer)) → AreEnds records None
    → JoinsRecorder state_of None None records records None
joins_nothing state_of None ends = tt
joins_nothing state_of (Some records) ends = absurd ends

-- both ends of the lane to a recorder have looked at each other, once it had ended
pub agreed : {W : Type 0} (state_of : W → SinkState) (out : W) (given : IntakeView Answer) (old new : PortView Answer)
    (first last : Recorder W) → HasRecorded state_of given out first → Lane old first.answers → new.sent ≡ old.sent
    → new.closed ≡ old.closed → last.answers.taken ≡ first.answers.taken → last.out ≡ first.out → last.failure ≡ first.failure
    → JoinsRecorder state_of (Some out) (Some given) (Some old) (Some new) (Some last)
agreed {W} state_of out given old new first last has lane sent closed taken same_out same_failure = (
  sent,
  closed,
  taken ∙ all_taken old first.answers lane has.ended ∙ sym sent,
  subst (λ (now : List Answer). WritesRecords given.taken now (state_of out) (state_of last.out) last.failure) (sym taken)
      (subst (λ (o : W). WritesRecords given.taken first.answers.taken (state_of out) (state_of o) last.failure) (sym same_out)
      (subst (λ (f : Option AnswerError). WritesRecords given.taken first.answers.taken (state_of out) (state_of first.out) f) (sym same_failure)
      has.writes)),
)

module _ {W : Type 0} where
  -- whether a batch was left unsent by now
  leaves_also : (joined : List (Joined W)) (j : Joined W) (was now : Bool) (unsent : Option Batch) → j.sent.unsent ≡ unsent
      → (was ≡ false → LeavesUnsent joined) → (was ≡ true → unsent ≡ None → now ≡ true) → now ≡ false
      → LeavesUnsent (joined ++ j ∷ [])
  leaves_also joined j false now unsent is before sends none =
      let left = before refl in
      record {
        place = left.place;
        worker = left.worker;
        at = at_also joined left.place left.worker j left.at;
        batch = left.batch;
        unsent = left.unsent;
      }
  leaves_also joined j true now None is before sends none = absurd (false≢true (sym none ∙ sends refl refl))
  leaves_also joined j true now (Some batch) is before sends none =
      record { place = length joined; worker = j; at = at_last joined j; batch = batch; unsent = is }

  -- nothing was joined yet
  pub nothing_joined : (streamed : Streamed W) → streamed.clients.items ≡ [] → streamed.failures.items ≡ []
      → streamed.recorders.items ≡ [] → streamed.unwritten.items ≡ [] → streamed.all_sent ≡ true → IsStreamedOf [] streamed
  nothing_joined streamed clients failures recorders unwritten all_sent = record {
    clients = clients;
    failures = failures;
    recorders = recorders;
    unwritten = unwritten;
    all_sent = λ _ k d inside. absurd (omega arith);
    unsent = λ none. absurd (false≢true (sym none ∙ all_sent));
  }

  -- one proxy more was joined
  pub streamed_also : (joined : List (Joined W)) (old new : Streamed W) (j : Joined W) → IsStreamedOf joined old
      → new.clients.items ≡ old.clients.items ++ client_of j ∷ []
      → new.failures.items ≡ old.failures.items ++ failure_with j ∷ []
      → new.recorders.items ≡ old.recorders.items ++ j.recorder ∷ []
      → new.unwritten.items ≡ old.unwritten.items ++ is_unwritten (unwritten_cause j.recorder) ∷ []
      → (new.all_sent ≡ true → (old.all_sent ≡ true) × SendsAll j)
      → (old.all_sent ≡ true → j.sent.unsent ≡ None → new.all_sent ≡ true) → IsStreamedOf (joined ++ j ∷ []) new
  streamed_also joined old new j of clients failures recorders unwritten sent sends = record {
    clients = clients ∙ ap (λ l. l ++ client_of j ∷ []) of.clients ∙ sym (map-append client_of joined (j ∷ []));
    failures = failures ∙ ap (λ l. l ++ failure_with j ∷ []) of.failures ∙ sym (map-append failure_with joined (j ∷ []));
    recorders =
        recorders ∙ ap (λ l. l ++ j.recorder ∷ []) of.recorders
        ∙ sym (map-append (λ (j : Joined W). j.recorder) joined (j ∷ []));
    unwritten =
        unwritten ∙ ap (λ l. l ++ is_unwritten (unwritten_cause j.recorder) ∷ []) of.unwritten
        ∙ sym (map-append (λ (j : Joined W). is_unwritten (unwritten_cause j.recorder)) joined (j ∷ []));
    all_sent = λ all.
        let both = sent all in
        All-push SendsAll joined j (of.all_sent both.0) both.1;
    unsent = leaves_also joined j old.all_sent new.all_sent j.sent.unsent refl of.unsent sends;
  }
