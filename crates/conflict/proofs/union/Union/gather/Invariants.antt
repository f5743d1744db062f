use Rattle.std.proofs.Common.{take}
use Rattle.conflict.specs.Union.{AreUnited}
use Rattle.conflict.proofs.UnionOrder.{listed_ranges}
use Rattle.conflict.proofs.union.Union.gather.Given as goal

-- the marked ranges among those gone through are united
abbrev pub invariant-loop-index : goal.invariant-loop-index
invariant-loop-index g l =
    let ranges = g.L.RangeList.ranges l.ranges in
    AreUnited ranges l.self (listed_ranges l.written ranges (take l.index-index l.order))
