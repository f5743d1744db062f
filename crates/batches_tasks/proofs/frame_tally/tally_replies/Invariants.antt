use Rattle.std.proofs.Common.{◌≡◌}
use Rattle.batches_tasks.proofs.TalliedSoFar.{RepliesSoFar}
use Rattle.batches_tasks.proofs.frame_tally.tally_replies.Given as goal

abbrev pub invariant-loop-number : goal.invariant-loop-number
invariant-loop-number g l =
    RepliesSoFar (g.R.Source.remaining l.fn.reader) (g.R.Source.remaining l.reader) l.fn.tally l.tally l.number
    × (g.R.Source.failures l.reader ≡ g.R.Source.failures l.fn.reader)
