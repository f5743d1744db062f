use Rattle.std.proofs.Common.{◌≡◌, ◌++◌, map}
use Rattle.std.specs.Vec.Iter.{into_iter_items}
use Rattle.replay_shards.specs.Matching.{match_of, match_one}
use Rattle.replay_shards.proofs.answer_match.match_one.Given as goal

abbrev pub invariant-loop-answer : goal.invariant-loop-answer
invariant-loop-answer l =
    map match_of l.matched.items ++ match_one (into_iter_items l.answer-iterator) ≡ match_one l.fn.first.items
