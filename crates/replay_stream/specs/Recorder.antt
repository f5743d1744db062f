-- What a recorder has done. This project's own.
use Rattle.std.specs.Prelude.{◌≡◌, Bool, true, false, List, [], ◌++◌, Option, None, Some}
use Rattle.keyspace.specs.declared.answer.Answer.{Answer}
use Rattle.lane.specs.Lane.{IntakeView, IntakeContinues, HasEnded}
use Rattle.replay_output.specs.declared.stream.AnswerError.{AnswerError}
use Rattle.replay_output.specs.declared.stream.AnswerError.TheVariants.{Memory, Write}
use Rattle.replay_output.specs.Record.{answer_records}
use Rattle.replay_stream.specs.declared.recorder.Recorder.{Recorder}
use Rattle.replay_stream.specs.Sinks.{FailsIn, SinkState, Takes}

-- What a writer was given of the records of these answers: complete records, unless the writer has failed, and then a prefix of
-- them.
abbrev pub TookRecords : Option AnswerError → SinkState → SinkState → List Answer → Type 0
TookRecords None before after answers = Takes before after (answer_records answers)
TookRecords (Some Memory) before after answers = Takes before after (answer_records answers)
TookRecords (Some Write) before after answers = FailsIn before after (answer_records answers)

-- The answers taken since `old` are those whose records were written, and then those that were dropped. None is dropped unless a
-- record could not be written.
pub record WritesRecords (old new : List Answer) (before after : SinkState) (failure : Option AnswerError) : Type 0 where
  pub written : List Answer
  pub dropped : List Answer
  pub taken : new ≡ old ++ (written ++ dropped)
  pub none_dropped : failure ≡ None → dropped ≡ []
  pub records : TookRecords failure before after written

-- What a recorder has done that was given this intake, and this writer: it has taken answers to their end, and written records of
-- them.
pub record HasRecorded {W : Type 0} (state_of : W → SinkState) (given : IntakeView Answer) (out : W) (recorder : Recorder W)
    : Type 0 where
  pub answers : IntakeContinues given recorder.answers
  pub ended : HasEnded recorder.answers
  pub writes :
      WritesRecords given.taken recorder.answers.taken (state_of out) (state_of recorder.out) recorder.failure

-- the same recorder later
pub record RecorderContinues {W : Type 0} (state_of : W → SinkState) (old new : Recorder W) : Type 0 where
  pub answers : IntakeContinues old.answers new.answers
  pub writes :
      (first : List Answer) (before : SinkState)
      → WritesRecords first old.answers.taken before (state_of old.out) old.failure
      → WritesRecords first new.answers.taken before (state_of new.out) new.failure

-- why a record was not written
abbrev pub unwritten_cause : {W : Type 0} → Option (Recorder W) → Option AnswerError
unwritten_cause None = None
unwritten_cause (Some recorder) = recorder.failure

abbrev pub is_unwritten : Option AnswerError → Bool
is_unwritten None = false
is_unwritten (Some Memory) = false
is_unwritten (Some Write) = true

abbrev pub is_refused : Option AnswerError → Bool
is_refused None = false
is_refused (Some Memory) = true
is_refused (Some Write) = false
