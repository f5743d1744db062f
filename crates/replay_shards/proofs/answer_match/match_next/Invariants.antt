use Rattle.std.proofs.Common.{◌≡◌, ◌++◌, map}
use Rattle.std.specs.Vec.Iter.{into_iter_items}
use Rattle.replay_shards.specs.Matching.{left_in, match_of, match_next}
use Rattle.replay_shards.proofs.answer_match.match_next.Given as goal

abbrev pub invariant-loop-one : goal.invariant-loop-one
invariant-loop-one l =
    map match_of l.both.items ++ match_next (map match_of (into_iter_items l.one-iterator)) (left_in l.cursor)
    ≡ match_next (map match_of l.fn.matched.items) l.fn.own.items
