use Rattle.std.proofs.Common.{take, All}
use Rattle.replay_shards.specs.Answers.{FitsIn, noted_each}
use Rattle.replay_shards.proofs.entries.do_fit.Given as goal

abbrev pub invariant-loop-own : goal.invariant-loop-own
invariant-loop-own l = All (FitsIn l.count) (noted_each (take l.own-index l.each))
