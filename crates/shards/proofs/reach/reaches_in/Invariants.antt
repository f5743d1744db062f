use Rattle.std.proofs.Common.{take}
use Rattle.std.specs.List.{AllZip}
use Rattle.shards.specs.Reach.{IsReach}
use Rattle.shards.proofs.reach.reaches_in.Given as goal

abbrev pub invariant-loop-index : goal.invariant-loop-index
invariant-loop-index l = AllZip (IsReach l.points) (take l.index l.ranges) l.reaches.items
