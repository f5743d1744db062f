use Rattle.std.proofs.Common.{◌≡◌, [], take}
use Rattle.serial.specs.Shards.{IsRising}
use Rattle.shards.proofs.ShardList.{last_or}
use Rattle.shards.proofs.split_points.first_fall.Given as goal

abbrev pub invariant-loop-index : goal.invariant-loop-index
invariant-loop-index l = record {
  rising : IsRising [] (take l.index l.points);
  last : l.before ≡ last_or [] (take l.index l.points);
}
