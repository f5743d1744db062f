use Rattle.std.proofs.Common.{List, subst}
use Rattle.std.specs.Prelude.{IfOk}
use Rattle.std.specs.List.{AllZip}
use Rattle.keys.specs.declared.range.Range.{Range}
use Rattle.shards.specs.Reach.{IsReach}
use Rattle.shards.proofs.reach.reaches_of.Goals as goal

pub returns : goal.returns
returns c = record {
  reaches = subst (λ (ranges : List Range). IfOk c.reaches_in.result (λ reaches. AllZip (IsReach c.args.points.now) ranges reaches.items))
      c.ranges-2.ensures.ranges c.reaches_in.ensures.reaches;
}
