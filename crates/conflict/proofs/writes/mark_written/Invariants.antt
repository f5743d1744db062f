use Rattle.conflict.proofs.Marks.{AreMarkedTo}
use Rattle.conflict.proofs.writes.mark_written.Given as goal

abbrev pub invariant-loop-index : goal.invariant-loop-index
invariant-loop-index l = AreMarkedTo l.marks l.end l.batch.txns l.entries l.index
