use Rattle.std.proofs.Common.{◌≡◌, take, map, Bor}
use Rattle.keyspace.specs.declared.batch.Batch.{Batch}
use Rattle.shards.specs.Balanced.{begins_of}
use Rattle.shards.specs.Picking.{keys_of}
use Rattle.shards.proofs.balanced_points.sorted_begins.Given as goal

abbrev pub invariant-loop-batch : goal.invariant-loop-batch
invariant-loop-batch l = keys_of l.begins.items ≡ begins_of (map (λ (batch : Bor Batch). batch.now) (take l.batch-index l.sample))
