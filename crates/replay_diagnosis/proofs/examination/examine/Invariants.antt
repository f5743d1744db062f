use Rattle.std.proofs.Common.{◌≡◌}
use Rattle.replay_diagnosis.proofs.FramesRead.{FramesSoFar}
use Rattle.replay_diagnosis.proofs.examination.examine.Given as goal

abbrev pub invariant-loop-number : goal.invariant-loop-number
invariant-loop-number g l =
    FramesSoFar (g.R.Source.remaining l.fn.reader) (g.R.Source.remaining l.reader) l.number l.offset l.batches
    × (g.R.Source.failures l.reader ≡ g.R.Source.failures l.fn.reader)
