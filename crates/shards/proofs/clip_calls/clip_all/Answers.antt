use Rattle.std.proofs.Common.{◌+◌, List, take, sym, subst}
use Rattle.std.specs.List.{AllZip}
use Rattle.keys.proofs.callers.Lists.{AllZip-more}
use Rattle.serial.specs.Shards.{Shard, shards}
use Rattle.shards.specs.declared.clipped.Clipped.{Clipped}
use Rattle.shards.specs.Clips.{IsClipped}
use Rattle.shards.specs.Reach.{shard_at}
use Rattle.shards.proofs.clip_calls.clip_all.Goals as goal

pub loop-shard-preserved : goal.loop-shard-preserved
loop-shard-preserved c =
    let points = c.args.points.now in
    let m = c.loop-shard.shard in
    let R = λ (shard : Shard) (clipped : Clipped). IsClipped shard c.args.batch.now clipped in
    subst (λ (all : List Clipped). AllZip R (take (m + 1) (shards points)) all) (sym c.in_ok-push.ensures.items)
    (AllZip-more R (shards points) m c.loop-shard.all.items (shard_at points m) c.in_ok-clip_by.field-0 c.in_ok-clip_by.ensures.shard
    c.loop-shard.invariant c.in_ok-clip_by.ensures.clip)
