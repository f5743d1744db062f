use Rattle.std.proofs.Common.{◌≡◌}
use Rattle.batches_tasks.proofs.CountedSoFar.{CollectedSoFar}
use Rattle.batches_tasks.proofs.sample.read_batches.Given as goal

abbrev pub invariant-loop-number : goal.invariant-loop-number
invariant-loop-number g l =
    CollectedSoFar (g.R.Source.remaining l.fn.reader) (g.R.Source.remaining l.reader) l.fn.batches.items l.batches.items l.number
    × (g.R.Source.failures l.reader ≡ g.R.Source.failures l.fn.reader)
