use Rattle.std.proofs.Common.{take, drop}
use Rattle.std.specs.List.{AllZip}
use Rattle.keyspace.specs.storage.BatchRanges.{ranges_in}
use Rattle.shards.specs.Built.{IsBuilt}
use Rattle.shards.specs.Reach.{shard_at, IsReported}
use Rattle.shards.proofs.clip_calls.clip_by.Given as goal

abbrev pub invariant-loop-index : goal.invariant-loop-index
invariant-loop-index l = record {
  built : IsBuilt (shard_at l.points l.shard) l.shard (take l.index l.batch.txns) l.tables;
  rest : AllZip (IsReported (shard_at l.points l.shard) l.shard) (ranges_in (drop l.index l.batch.txns)) l.rest;
}
