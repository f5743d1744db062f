use Rattle.std.proofs.Common.{ℕ, take}
use Rattle.std.specs.List.{AllZip}
use Rattle.keyspace.specs.storage.Putting.{ArePut}
use Rattle.serial.specs.Shards.{Shard}
use Rattle.shards.specs.Built.{HasBounds, clips_of}
use Rattle.shards.specs.Reach.{IsReported}
use Rattle.shards.proofs.copied_clips.put_clips.Given as goal

abbrev pub invariant-loop-index : goal.invariant-loop-index
invariant-loop-index l =
    (shard : Shard) (m : ℕ) → HasBounds shard m l.initial.buffer.items l.bounds → AllZip (IsReported shard m) l.ranges l.reaches
    → ArePut l.initial.buffer.items l.initial.spans.items (clips_of shard (take l.index l.ranges)) l.buffer.items l.spans.items
