use Rattle.std.proofs.Common.{◌≡◌, ◌+◌, ◌++◌, map, All}
use Rattle.std.specs.Prelude.{vec_items, vec_len}
use Rattle.std.specs.Vec.Iter.{into_iter_items, into_iter_len}
use Rattle.replay_shards.specs.Answered.{AreKept, sorted_answers, sorted_notes}
use Rattle.replay_shards.proofs.answered.in_order.Given as goal

abbrev pub invariant-loop-own : goal.invariant-loop-own
invariant-loop-own l = record {
  answers :
      map vec_items l.answers.items ++ map sorted_answers (into_iter_items l.own-iterator) ≡ map sorted_answers l.fn.each.items;
  notes : map vec_items l.notes.items ++ map sorted_notes (into_iter_items l.own-iterator) ≡ map sorted_notes l.fn.each.items;
  kept : All AreKept (into_iter_items l.own-iterator);
  answers_count : vec_len l.answers + into_iter_len l.own-iterator ≡ vec_len l.fn.each;
  notes_count : vec_len l.notes + into_iter_len l.own-iterator ≡ vec_len l.fn.each;
}
