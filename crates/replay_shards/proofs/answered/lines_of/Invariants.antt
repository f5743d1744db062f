use Rattle.std.proofs.Common.{◌≡◌, ◌++◌, All}
use Rattle.std.specs.Vec.Iter.{into_iter_items}
use Rattle.replay_output.specs.Line.{IsLineOf, answers_of}
use Rattle.replay_shards.proofs.answered.lines_of.Given as goal

abbrev pub invariant-loop-answer : goal.invariant-loop-answer
invariant-loop-answer l = record {
  answers : answers_of l.lines.items ++ into_iter_items l.answer-iterator ≡ l.fn.answers.items;
  lines : All (IsLineOf l.style l.proxy) l.lines.items;
}
