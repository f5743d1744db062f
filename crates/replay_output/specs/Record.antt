-- The record of an answer, in the bytes that the program writes for another program: this project's own.
use Rattle.std.specs.Prelude.{ℕ, List, [], ◌∷◌, ◌++◌}
use Rattle.std.specs.List.{flat_map}
use Rattle.keyspace.specs.Answer.{version_of_answer}
use Rattle.keyspace.specs.declared.answer.Answer.{Answer}
use Rattle.keyspace.specs.declared.answer.Answer.TheVariants as answer
use Rattle.wire.specs.Fields.{reply_fields}
use Rattle.wire.specs.Spelling.{frame, reply_body, signed_text}

-- what became of the batch, as the first byte
abbrev pub record_status : Answer → ℕ
record_status (answer.Reply reply) = 1
record_status (answer.Never version) = 2
record_status (answer.Held version) = 3

-- the frame of the reply, if there is one
abbrev pub record_frame : Answer → List ℕ
record_frame (answer.Reply reply) = frame (reply_body (reply_fields reply))
record_frame (answer.Never version) = []
record_frame (answer.Held version) = []

-- the complete record: the status, the version in eight bytes, and the frame of a reply
abbrev pub answer_record : Answer → List ℕ
answer_record answer = record_status answer ∷ (signed_text (version_of_answer answer) ++ record_frame answer)

-- the records of answers, in order
abbrev pub answer_records : List Answer → List ℕ
answer_records answers = flat_map answer_record answers
