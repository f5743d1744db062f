use Rattle.std.proofs.Common.{◌≡◌, map, take}
use Rattle.batches_tasks.proofs.sample.refs_of.Given as goal

abbrev pub invariant-loop-batch : goal.invariant-loop-batch
invariant-loop-batch l = map (λ batch. batch.now) l.refs.items ≡ take l.batch-index l.batches
