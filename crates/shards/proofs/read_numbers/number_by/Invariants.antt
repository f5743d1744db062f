use Rattle.std.proofs.Common.{◌≡◌, map, take, drop}
use Rattle.std.specs.List.{AllZip}
use Rattle.keyspace.specs.storage.BatchRanges.{ranges_in}
use Rattle.serial.specs.Shards.{Shard}
use Rattle.shards.specs.Clips.{read_indices}
use Rattle.shards.specs.ReadIndices.{parts_from, AreIndices}
use Rattle.shards.specs.Reach.{IsReported}
use Rattle.shards.proofs.read_numbers.number_by.Given as goal

abbrev pub invariant-loop-index : goal.invariant-loop-index
invariant-loop-index l =
    (owner : Shard) → AllZip (IsReported owner l.shard) (ranges_in l.batch.txns) l.fn.reaches
    → AreIndices l.indices.items l.ends.items
    × (parts_from 0 l.indices.items l.ends.items ≡ map (read_indices owner) (take l.index l.batch.txns))
    × AllZip (IsReported owner l.shard) (ranges_in (drop l.index l.batch.txns)) l.rest
