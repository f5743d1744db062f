use Rattle.std.proofs.Common.{take}
use Rattle.boundaries.proofs.Releasing.{AreReleased}
use Rattle.boundaries.proofs.store.release.Given as goal

-- the keys so far are released, and no other one
abbrev pub invariant-loop-slot : goal.invariant-loop-slot
invariant-loop-slot l = AreReleased l.fn.keys l.keys (take l.slot-index l.slots)
