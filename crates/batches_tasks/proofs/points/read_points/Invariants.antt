use Rattle.batches_tasks.proofs.PointLines.{KeysSoFar}
use Rattle.batches_tasks.proofs.points.read_points.Given as goal

abbrev pub invariant-loop-number : goal.invariant-loop-number
invariant-loop-number g l = KeysSoFar (g.R.Read.remaining l.fn.reader) (g.R.Read.remaining l.reader) l.points.items
