use Rattle.replay_diagnosis.proofs.FramesRead.{FramesUpTo}
use Rattle.replay_diagnosis.proofs.unbegun.examine_unbegun.Given as goal

abbrev pub invariant-loop : goal.invariant-loop
invariant-loop g l = FramesUpTo (g.R.Source.remaining l.fn.reader) (g.R.Source.remaining l.reader) l.batches
