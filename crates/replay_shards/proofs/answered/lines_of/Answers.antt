use Rattle.std.proofs.Common.{sym, subst, All}
use Rattle.std.proofs.lemmas.List.Elements.{All-push}
use Rattle.std.specs.Vec.Iter.{into_iter_items}
use Rattle.replay_output.specs.Line.{IsLineOf, answer_of}
use Rattle.replay_shards.proofs.Moved.{moved_from}
use Rattle.replay_shards.proofs.answered.lines_of.Goals as goal

pub loop-answer-preserved : goal.loop-answer-preserved
loop-answer-preserved c =
    let left = into_iter_items c.loop-answer.answer-iterator in
    let rest = into_iter_items c.next.new.self in
    let lines = c.loop-answer.lines.items in
    let line = c.in-Some-new.line in
    let P = IsLineOf c.args.style c.args.proxy in
    record {
      answers = moved_from answer_of lines c.push.new.self.items left rest line c.in-Some.answer c.args.answers.items
          c.in-Some.ensures.steps.0 c.in_ok-push.ensures.items c.in-Some-new.ensures.answer c.loop-answer.invariant.answers;
      lines = subst (All P) (sym c.in_ok-push.ensures.items)
          (All-push P lines line c.loop-answer.invariant.lines c.in-Some-new.ensures.line);
    }
