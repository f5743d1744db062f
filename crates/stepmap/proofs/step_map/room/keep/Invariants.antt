use Rattle.std.proofs.Common.{◌≡◌, take}
use Rattle.stepmap.proofs.step_map.room.keep.Given as goal

abbrev pub invariant-loop-pair : goal.invariant-loop-pair
invariant-loop-pair l = l.kept.items ≡ take l.pair-index l.lengths
