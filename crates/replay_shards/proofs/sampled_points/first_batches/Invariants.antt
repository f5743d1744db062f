use Rattle.std.proofs.Common.{◌-◌}
use Rattle.wire.specs.Frames.{frames_reader}
use Rattle.replay_shards.specs.Sampling.{AreTaken}
use Rattle.replay_shards.proofs.sampled_points.first_batches.Given as goal

abbrev pub invariant-loop-count : goal.invariant-loop-count
invariant-loop-count g l =
    AreTaken (g.S.Source.remaining l.fn.reader) (g.S.Source.remaining (frames_reader l.frames)) l.batches.items

abbrev pub decreases-loop-count : goal.decreases-loop-count
decreases-loop-count g l = l.most - l.count
