use Rattle.std.proofs.Common.{◌≡◌, map, vec_items}
use Rattle.std.specs.Vec.Iter.{into_iter_items}
use Rattle.replay_shards.specs.Matching.{match_all, match_of, match_rest}
use Rattle.replay_shards.proofs.answer_match.match_all.Given as goal

abbrev pub invariant-loop-own : goal.invariant-loop-own
invariant-loop-own l =
    match_rest (map match_of l.matched.items) (map vec_items (into_iter_items l.own-iterator))
    ≡ match_all (map vec_items l.fn.each.items)
