use Rattle.std.proofs.Common.{take}
use Rattle.std.specs.List.{AllZip}
use Rattle.keys.specs.Hash.{IsHashOf}
use Rattle.keys.proofs.key_hashes.single_hashes.Given as goal

abbrev pub invariant-loop-index : goal.invariant-loop-index
invariant-loop-index g l = AllZip IsHashOf (take l.index (g.L.RangeList.ranges l.ranges)) l.hashes.items
