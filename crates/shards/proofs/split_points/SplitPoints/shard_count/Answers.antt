use Rattle.std.proofs.Common.{arith, [], length, ap}
use Rattle.shards.proofs.ShardList.{length-shards}
use Rattle.shards.proofs.split_points.SplitPoints.shard_count.Goals as goal

pub returns-clause-count : goal.returns-clause-count
returns-clause-count c =
    omega (arith, c.self.inside.points.ok.0, ap length c.self.view_is, length-shards [] c.args.self.now)
