use Rattle.std.specs.Vec.Iter.{into_iter_items}
use Rattle.replay_output.specs.Line.{answer_of, answers_of}
use Rattle.replay_shards.specs.Answered.{IsKept}
use Rattle.replay_shards.proofs.Moved.{all_of_rest, moved_to}
use Rattle.replay_shards.proofs.answered.kept_answers.Goals as goal

pub loop-line-preserved : goal.loop-line-preserved
loop-line-preserved c =
    let left = into_iter_items c.loop-line.line-iterator in
    let rest = into_iter_items c.next.new.self in
    let line = c.in-Some.line in
    record {
      answers = moved_to answer_of c.loop-line.answers.items c.push.new.self.items left rest c.kept_answer.result line
          (answers_of c.args.lines.items) c.in-Some.ensures.steps.0 c.in_ok-push.ensures.items c.kept_answer.ensures.answer
          c.loop-line.invariant.answers;
      kept = all_of_rest IsKept left rest line c.in-Some.ensures.steps.0 c.loop-line.invariant.kept;
    }
