use Rattle.std.proofs.Common.{◌≡◌}
use Rattle.batches_tasks.proofs.CountedSoFar.{CountedSoFar}
use Rattle.batches_tasks.proofs.counter.count_frames.Given as goal

abbrev pub invariant-loop-number : goal.invariant-loop-number
invariant-loop-number g l =
    CountedSoFar (g.R.Source.remaining l.fn.reader) (g.R.Source.remaining l.reader) l.fn.stats l.stats l.number
    × (g.R.Source.failures l.reader ≡ g.R.Source.failures l.fn.reader)
