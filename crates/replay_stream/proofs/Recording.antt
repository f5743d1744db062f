-- What a recorder has written as it takes one answer more.
use Rattle.std.specs.Prelude.{◌≡◌, true, false, List, [], ◌∷◌, ◌++◌, Option, None, Some, is_some}
use Rattle.std.proofs.Common.{refl, sym, ap, subst, ◌∙◌, append_assoc, append-nil}
use Rattle.std.proofs.lemmas.List.{flat_map_more}
use Rattle.std.proofs.lemmas.Bool.{false≢true}
use Rattle.std.proofs.lemmas.Option.{none-some}
use Rattle.keyspace.specs.declared.answer.Answer.{Answer}
use Rattle.lane.specs.Lane.{HasEnded, IntakeView, IntakeContinues}
use Rattle.replay_output.specs.declared.stream.AnswerError.{AnswerError}
use Rattle.replay_output.specs.declared.stream.AnswerError.TheVariants.{Memory, Write}
use Rattle.replay_output.specs.Record.{answer_record, answer_records}
use Rattle.replay_stream.specs.declared.recorder.Recorder.{Recorder}
use Rattle.replay_stream.specs.Recorder.{HasRecorded, TookRecords, WritesRecords, RecorderContinues}
use Rattle.replay_stream.specs.Sinks.{FailsIn, SinkState, Takes}
use Rattle.replay_workers.proofs.callers.SameLanes.{intake_continues}
use Rattle.replay_stream.proofs.Writing.{fails_then, takes_nothing, takes_then}

module _ (first taken : List Answer) (before old new : SinkState) (answer : Answer) where
  -- the answers that were taken, if none was dropped
  none_dropped : (w : WritesRecords first taken before old None) → taken ≡ first ++ w.written
  none_dropped w = w.taken ∙ ap (λ (l : List Answer). first ++ (w.written ++ l)) (w.none_dropped refl)
      ∙ ap (λ (l : List Answer). first ++ l) (append-nil w.written)

  records_more : (written : List Answer) → answer_records written ++ answer_record answer ≡ answer_records (written ++ answer ∷ [])
  records_more written = flat_map_more answer_record [] written answer

  one_more : (w : WritesRecords first taken before old None) → taken ++ answer ∷ [] ≡ first ++ ((w.written ++ answer ∷ []) ++ [])
  one_more w = ap (λ (l : List Answer). l ++ answer ∷ []) (none_dropped w) ∙ append_assoc first w.written (answer ∷ [])
      ∙ ap (λ (l : List Answer). first ++ l) (sym (append-nil (w.written ++ answer ∷ [])))

  -- the record isn't written
  pub dropped_also : (failure : AnswerError) → WritesRecords first taken before old (Some failure) → new ≡ old
      → WritesRecords first (taken ++ answer ∷ []) before new (Some failure)
  dropped_also failure w same = record {
    written = w.written;
    dropped = w.dropped ++ answer ∷ [];
    taken =
        ap (λ (l : List Answer). l ++ answer ∷ []) w.taken ∙ append_assoc first (w.written ++ w.dropped) (answer ∷ [])
        ∙ ap (λ (l : List Answer). first ++ l) (append_assoc w.written w.dropped (answer ∷ []));
    none_dropped = λ none. absurd (none-some failure (sym none));
    records = subst (λ (now : SinkState). TookRecords (Some failure) before now w.written) (sym same) w.records;
  }

  pub dropped_after : (failure : Option AnswerError) → is_some failure ≡ true → WritesRecords first taken before old failure
      → new ≡ old → WritesRecords first (taken ++ answer ∷ []) before new failure
  dropped_after None some w same = absurd (false≢true some)
  dropped_after (Some failure) some w same = dropped_also failure w same

  -- it is written
  pub written_also : WritesRecords first taken before old None → Takes old new (answer_record answer)
      → WritesRecords first (taken ++ answer ∷ []) before new None
  written_also w appends = record {
    written = w.written ++ answer ∷ [];
    dropped = [];
    taken = one_more w;
    none_dropped = λ none. refl;
    records =
        subst (Takes before new) (records_more w.written)
        (takes_then before old new (answer_records w.written) (answer_record answer) w.records appends);
  }

  -- memory was refused for it
  pub refused_also : WritesRecords first taken before old None → new ≡ old
      → WritesRecords first (taken ++ answer ∷ []) before new (Some Memory)
  refused_also w same = record {
    written = w.written;
    dropped = answer ∷ [];
    taken =
        ap (λ (l : List Answer). l ++ answer ∷ []) (none_dropped w) ∙ append_assoc first w.written (answer ∷ []);
    none_dropped = λ none. absurd (none-some Memory (sym none));
    records = subst (λ (now : SinkState). Takes before now (answer_records w.written)) (sym same) w.records;
  }

  -- the writer has failed
  pub failed_also : WritesRecords first taken before old None → FailsIn old new (answer_record answer)
      → WritesRecords first (taken ++ answer ∷ []) before new (Some Write)
  failed_also w begins = record {
    written = w.written ++ answer ∷ [];
    dropped = [];
    taken = one_more w;
    none_dropped = λ none. absurd (none-some Write (sym none));
    records =
        subst (FailsIn before new) (records_more w.written)
        (fails_then before old new (answer_records w.written) (answer_record answer) w.records begins);
  }

pub none_yet : (failure : Option AnswerError) → is_some failure ≡ false → failure ≡ None
none_yet None none = refl
none_yet (Some failure) none = absurd (false≢true (sym none))

module _ (first taken : List Answer) (before old new : SinkState) (answer : Answer) (failure : Option AnswerError)
    (none : failure ≡ None) (w : WritesRecords first taken before old failure) where
  was : WritesRecords first taken before old None
  was = subst (λ (f : Option AnswerError). WritesRecords first taken before old f) none w

  pub written_after : Takes old new (answer_record answer) → WritesRecords first (taken ++ answer ∷ []) before new failure
  written_after appends =
      subst (λ (f : Option AnswerError). WritesRecords first (taken ++ answer ∷ []) before new f) (sym none)
      (written_also first taken before old new answer was appends)

  pub failed_after : FailsIn old new (answer_record answer) → WritesRecords first (taken ++ answer ∷ []) before new (Some Write)
  failed_after begins = failed_also first taken before old new answer was begins

-- a recorder has written nothing yet
pub nothing_recorded : (taken : List Answer) (before : SinkState) → Takes before before []
    → WritesRecords taken taken before before None
nothing_recorded taken before none = record {
  written = [];
  dropped = [];
  taken = sym (append-nil taken);
  none_dropped = λ _. refl;
  records = none;
}

module _ {W : Type 0} (state_of : W → SinkState) where
  pub recorder_same : (old : Recorder W) → IntakeContinues old.answers old.answers → RecorderContinues state_of old old
  recorder_same old same = record { answers = same; writes = λ first before writes. writes }

  -- one answer more was taken, and its record written or dropped
  pub recorder_continues : (start old new : Recorder W) (answers : IntakeView Answer) (answer : Answer)
      → RecorderContinues state_of start old → IntakeContinues old.answers answers
      → answers.taken ≡ old.answers.taken ++ answer ∷ [] → new.answers ≡ answers
      → ((first taken : List Answer) (before : SinkState)
      → WritesRecords first taken before (state_of old.out) old.failure
      → WritesRecords first (taken ++ answer ∷ []) before (state_of new.out) new.failure)
      → RecorderContinues state_of start new
  recorder_continues start old new answers answer goes on took same writes = record {
    answers =
        intake_continues start.answers old.answers new.answers goes.answers
        (subst (λ (r : IntakeView Answer). IntakeContinues old.answers r) (sym same) on);
    writes = λ first before was.
        subst (λ (now : List Answer). WritesRecords first now before (state_of new.out) new.failure)
        (sym took ∙ ap (λ (r : IntakeView Answer). r.taken) (sym same))
        (writes first old.answers.taken before (goes.writes first before was));
  }

  -- no answer has come
  pub recorder_waits : (start old : Recorder W) (answers : IntakeView Answer) → RecorderContinues state_of start old
      → IntakeContinues old.answers answers → answers.taken ≡ old.answers.taken ++ []
      → RecorderContinues state_of start (record old { answers = answers })
  recorder_waits start old answers goes on took = record {
    answers = intake_continues start.answers old.answers answers goes.answers on;
    writes = λ first before was.
        subst (λ (now : List Answer). WritesRecords first now before (state_of old.out) old.failure)
        (sym (took ∙ append-nil old.answers.taken)) (goes.writes first before was);
  }

  -- the answers have ended
  pub has_recorded : (start last : Recorder W) → start.failure ≡ None → RecorderContinues state_of start last → HasEnded last.answers
      → HasRecorded state_of start.answers start.out last
  has_recorded start last none goes ended = record {
    answers = goes.answers;
    ended = ended;
    writes =
        goes.writes start.answers.taken (state_of start.out)
        (subst (λ (f : Option AnswerError). WritesRecords start.answers.taken start.answers.taken (state_of start.out) (state_of start.out) f)
        (sym none) (nothing_recorded start.answers.taken (state_of start.out) (takes_nothing (state_of start.out))));
  }
