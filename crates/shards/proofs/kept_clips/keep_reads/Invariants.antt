use Rattle.std.proofs.Common.{◌≡◌, ◌++◌, ℕ, List, map, take}
use Rattle.keys.specs.declared.range.Range.{Range}
use Rattle.keyspace.specs.storage.Fields.{range_fields}
use Rattle.keyspace.specs.Judge.{places_from}
use Rattle.keyspace.specs.storage.Putting.{ArePut}
use Rattle.keyspace.specs.storage.Tables.{range_of_span}
use Rattle.shards.specs.Built.{HasBounds, clips_of}
use Rattle.shards.specs.Clips.{goes_to}
use Rattle.shards.specs.Cut.{shard_of_ends}
use Rattle.shards.proofs.kept_clips.keep_reads.Given as goal

abbrev pub invariant-loop-index : goal.invariant-loop-index
invariant-loop-index l = record {
  kept :
      (m : ℕ) (ranges : List Range) → HasBounds (shard_of_ends l.shard) m l.buffer l.bounds
      → map (range_of_span l.buffer) l.spans ≡ map range_fields ranges
      → ArePut l.buffer l.initial.kept.items (clips_of (shard_of_ends l.shard) (take l.index ranges)) l.buffer l.kept.items;
  indices :
      (m : ℕ) (ranges : List Range) → HasBounds (shard_of_ends l.shard) m l.buffer l.bounds
      → map (range_of_span l.buffer) l.spans ≡ map range_fields ranges
      → l.indices.items ≡ l.initial.indices.items ++ places_from 0 (goes_to (shard_of_ends l.shard)) (take l.index ranges);
}
