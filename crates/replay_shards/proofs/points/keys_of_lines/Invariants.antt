use Rattle.std.proofs.Common.{length}
use Rattle.replay_shards.proofs.Lines.{Completes}
use Rattle.replay_shards.proofs.points.keys_of_lines.Given as goal

abbrev pub invariant-loop-rest : goal.invariant-loop-rest
invariant-loop-rest l = Completes l.bytes l.rest l.keys.items

abbrev pub decreases-loop-rest : goal.decreases-loop-rest
decreases-loop-rest l = length l.rest
