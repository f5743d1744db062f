use Rattle.std.proofs.Common.{take}
use Rattle.std.specs.List.{AllZip}
use Rattle.serial.specs.Shards.{shards}
use Rattle.shards.specs.Clips.{IsClipped}
use Rattle.shards.proofs.clip_calls.clip_all.Given as goal

abbrev pub invariant-loop-shard : goal.invariant-loop-shard
invariant-loop-shard l = AllZip (λ shard clipped. IsClipped shard l.batch clipped) (take l.shard (shards l.points)) l.all.items
