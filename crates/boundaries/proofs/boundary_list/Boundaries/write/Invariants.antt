use Rattle.std.proofs.Common.{length}
use Rattle.boundaries.proofs.WritingOn.{IsToWrite}
use Rattle.boundaries.proofs.boundary_list.Boundaries.write.Given as goal

-- the range is still to be written
abbrev pub invariant-loop-at_end : goal.invariant-loop-at_end
invariant-loop-at_end l = IsToWrite l.fn.range l.fn.version l.fn.self l.self l.new

abbrev pub decreases-loop-at_end : goal.decreases-loop-at_end
decreases-loop-at_end l = length l.self.boundaries
