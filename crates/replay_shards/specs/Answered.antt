-- What shards have answered to a proxy, kept as lines. This project's own.
use Rattle.std.specs.Prelude.{◌≡◌, List, map}
use Rattle.std.specs.List.{All}
use Rattle.keyspace.specs.declared.answer.Answer.{Answer}
use Rattle.keyspace.specs.storage.InOrder.{in_order_by}
use Rattle.replay_summary.specs.Counted.{counted_of}
use Rattle.replay_output.specs.declared.line.Line.{Line}
use Rattle.replay_output.specs.declared.options.form.Form.TheVariants.{Kept}
use Rattle.replay_output.specs.Line.{answer_of, answers_of, kept_of, version_of_line}
use Rattle.replay_shards.specs.declared.answered.Answered.{Answered}
use Rattle.replay_shards.specs.declared.note.Note.{Note}
use Rattle.replay_shards.specs.Merging.{AreMerged}
use Rattle.replay_shards.specs.Notes.{version_of_note}

-- the line keeps its answer
pub record IsKept (l : Line) : Type 0 where
  pub counted : l.counted ≡ counted_of (answer_of l)
  pub reply : l.reply ≡ kept_of Kept (answer_of l)

abbrev pub AreKept : Answered → Type 0
AreKept own = All IsKept own.lines.items

-- the answers of a shard, in the order in which it gave them, and its notes, in the order in which the batches were read
abbrev pub answers_by : Answered → List Answer
answers_by own = answers_of own.lines.items

abbrev pub notes_by : Answered → List Note
notes_by own = own.notes.items

-- the combined answers of all shards
abbrev pub AreAnswersTogether : List Answered → List Answer → Type 0
AreAnswersTogether each together = AreMerged (map answers_by each) (map notes_by each) together

-- in the order of versions
abbrev pub sorted_answers : Answered → List Answer
sorted_answers own = answers_of (in_order_by version_of_line own.lines.items)

abbrev pub sorted_notes : Answered → List Note
sorted_notes own = in_order_by version_of_note own.notes.items
