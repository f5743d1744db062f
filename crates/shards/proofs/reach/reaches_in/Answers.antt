use Rattle.std.proofs.Common.{◌+◌, take, sym, subst}
use Rattle.std.specs.List.{AllZip}
use Rattle.keys.proofs.callers.Lists.{AllZip-more}
use Rattle.shards.specs.Reach.{IsReach}
use Rattle.shards.proofs.reach.reaches_in.Goals as goal

pub loop-index-preserved : goal.loop-index-preserved
loop-index-preserved c =
    let R = IsReach c.args.points.now in
    let ranges = c.args.ranges.now in
    subst (λ reaches. AllZip R (take (c.loop-index.index + 1) ranges) reaches) (sym c.in_ok-push.ensures.items)
    (AllZip-more R ranges c.loop-index.index c.loop-index.reaches.items c.get.result c.of.result c.get.ensures.range
    c.loop-index.invariant c.of.ensures.reach)
