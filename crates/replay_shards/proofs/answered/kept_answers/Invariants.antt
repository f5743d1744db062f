use Rattle.std.proofs.Common.{◌≡◌, ◌++◌, All}
use Rattle.std.specs.Vec.Iter.{into_iter_items}
use Rattle.replay_output.specs.Line.{answers_of}
use Rattle.replay_shards.specs.Answered.{IsKept}
use Rattle.replay_shards.proofs.answered.kept_answers.Given as goal

abbrev pub invariant-loop-line : goal.invariant-loop-line
invariant-loop-line l = record {
  answers : l.answers.items ++ answers_of (into_iter_items l.line-iterator) ≡ answers_of l.fn.lines.items;
  kept : All IsKept (into_iter_items l.line-iterator);
}
