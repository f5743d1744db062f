use Rattle.std.proofs.Common.{length, map, vec_items}
use Rattle.std.specs.Vec.Iter.{into_iter_items}
use Rattle.replay_shards.specs.Matching.{match_of}
use Rattle.replay_shards.proofs.Combining.{SoFar}
use Rattle.replay_shards.proofs.merged_answers.combine_all.Given as goal

abbrev pub invariant-loop-one : goal.invariant-loop-one
invariant-loop-one l =
    SoFar (map vec_items l.notes) (length l.notes) (map match_of l.fn.matched.items) (into_iter_items l.one-iterator) l.merged.items
