use Rattle.std.proofs.Common.{◌≡◌, ◌++◌, List, take}
use Rattle.std.specs.List.{AllZip}
use Rattle.keys.specs.declared.range.Range.{Range}
use Rattle.keyspace.specs.Judge.{places_from}
use Rattle.serial.specs.Shards.{Shard}
use Rattle.shards.specs.Clips.{goes_to}
use Rattle.shards.specs.Reach.{IsReported}
use Rattle.shards.proofs.shard_tables.put_indices.Given as goal

abbrev pub invariant-loop-index : goal.invariant-loop-index
invariant-loop-index l =
    (owner : Shard) (ranges : List Range) → AllZip (IsReported owner l.shard) ranges l.reaches
    → l.indices.items ≡ l.initial.indices.items ++ places_from 0 (goes_to owner) (take l.index ranges)
