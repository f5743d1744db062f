use Rattle.std.proofs.Common.{◌≡◌, List, take, map, length}
use Rattle.keys.specs.declared.range.Range.{Range}
use Rattle.stepmap.specs.StepMap.{lengths}
use Rattle.conflict.specs.Union.{AreSpanned}
use Rattle.conflict.proofs.writes.gather_lengths.Given as goal

abbrev pub invariant-loop-span : goal.invariant-loop-span
invariant-loop-span g l =
    ((united : List Range) → AreSpanned (g.L.RangeList.ranges l.ranges) l.spans united
    → l.lengths.items ≡ map lengths (take l.span-index united))
    × (length l.lengths.items ≡ l.span-index)
