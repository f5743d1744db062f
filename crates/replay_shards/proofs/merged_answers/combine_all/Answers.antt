use Rattle.std.proofs.Common.{length, map, vec_items}
use Rattle.std.specs.Vec.Iter.{into_iter_items}
use Rattle.replay_shards.specs.Matching.{match_of}
use Rattle.replay_shards.proofs.Combining.{so_far_next, so_far_more}
use Rattle.replay_shards.proofs.merged_answers.combine_all.Goals as goal

pub combined_one-requires-clause-complete : goal.combined_one-requires-clause-complete
combined_one-requires-clause-complete c =
    so_far_next (map vec_items c.args.notes.now) (length c.args.notes.now) (map match_of c.args.matched.items)
    (into_iter_items c.loop-one.one-iterator) c.in-Some.one (into_iter_items c.next.new.self) c.loop-one.merged.items
    c.in-Some.ensures.steps.0 c.loop-one.invariant

pub loop-one-preserved : goal.loop-one-preserved
loop-one-preserved c =
    so_far_more (map vec_items c.args.notes.now) (length c.args.notes.now) (map match_of c.args.matched.items)
    (into_iter_items c.loop-one.one-iterator) c.in-Some.one (into_iter_items c.next.new.self) c.loop-one.merged.items
    c.push.new.self.items c.in_ok-combined_one.field-0 c.in-Some.ensures.steps.0 c.in_ok-push.ensures.items
    c.in_ok-combined_one.ensures.together c.loop-one.invariant
