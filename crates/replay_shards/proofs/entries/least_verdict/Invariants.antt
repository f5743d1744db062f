use Rattle.std.proofs.Common.{take}
use Rattle.shards.proofs.callers.Combining.{IsLeastSoFar}
use Rattle.replay_shards.specs.Answers.{noted_each}
use Rattle.replay_shards.proofs.entries.least_verdict.Given as goal

abbrev pub invariant-loop-own : goal.invariant-loop-own
invariant-loop-own l = IsLeastSoFar (noted_each (take l.own-index l.each)) l.index l.least
