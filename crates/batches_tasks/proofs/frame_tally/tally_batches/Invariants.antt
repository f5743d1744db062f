use Rattle.std.proofs.Common.{◌≡◌}
use Rattle.batches_tasks.proofs.TalliedSoFar.{BatchesSoFar}
use Rattle.batches_tasks.proofs.frame_tally.tally_batches.Given as goal

abbrev pub invariant-loop-number : goal.invariant-loop-number
invariant-loop-number g l =
    BatchesSoFar (g.R.Source.remaining l.fn.reader) (g.R.Source.remaining l.reader) l.fn.tally l.tally l.number
    × (g.R.Source.failures l.reader ≡ g.R.Source.failures l.fn.reader)
