use Rattle.std.proofs.Common.{◌≡◌, ◌++◌, map, take}
use Rattle.replay_shards.proofs.sampled_points.put_refs.Given as goal

abbrev pub invariant-loop-batch : goal.invariant-loop-batch
invariant-loop-batch l =
    map (λ batch. batch.now) l.refs.items ≡ map (λ batch. batch.now) l.initial.refs.items ++ take l.batch-index l.batches
