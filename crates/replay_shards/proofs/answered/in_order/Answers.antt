use Rattle.std.proofs.Common.{Global, map, vec_items, rules, arith}
use Rattle.std.specs.Vec.Iter.{into_iter_items}
use Rattle.std.proofs.lemmas.Grind.{common_steps}
use Rattle.keyspace.specs.declared.answer.Answer.{Answer}
use Rattle.replay_shards.specs.declared.note.Note.{Note}
use Rattle.replay_shards.specs.Answered.{AreKept, sorted_answers, sorted_notes}
use Rattle.replay_shards.proofs.Moved.{all_of_rest, moved}
use Rattle.replay_shards.proofs.answered.in_order.Goals as goal

pub loop-own-preserved : goal.loop-own-preserved
loop-own-preserved c =
    let left = into_iter_items c.loop-own.own-iterator in
    let rest = into_iter_items c.next.new.self in
    let own = c.in-Some.own in
    let first = c.in-Some.ensures.steps.0 in
    let each = c.args.each.items in
    record {
      answers = moved (vec_items {X = Answer} {Z = Global}) sorted_answers c.loop-own.answers.items c.push.new.self.items left rest
          c.in_ok-answers_in_order.field-0 own (map sorted_answers each) first c.in_ok-push.ensures.items
          c.in_ok-answers_in_order.ensures.answers c.loop-own.invariant.answers;
      notes = moved (vec_items {X = Note} {Z = Global}) sorted_notes c.loop-own.notes.items c.push-in-loop-own.new.self.items left rest
          c.in_ok-notes_in_order.field-0 own (map sorted_notes each) first c.in_ok-push-2.ensures.items
          c.in_ok-notes_in_order.ensures.notes c.loop-own.invariant.notes;
      kept = all_of_rest AreKept left rest own first c.loop-own.invariant.kept;
      answers_count = first_of (search rules, grind (arith, common_steps));
      notes_count = first_of (search rules, grind (arith, common_steps));
    }
