use Rattle.std.proofs.Common.{take, All}
use Rattle.shards.specs.Combined.{Fits}
use Rattle.shards.proofs.combined_replies.first_misfit.Given as goal

abbrev pub invariant-loop-shard : goal.invariant-loop-shard
invariant-loop-shard l = All (Fits l.batch) (take l.shard l.each)
