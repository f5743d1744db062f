use Rattle.std.proofs.Common.{◌≡◌, take, All}
use Rattle.std.specs.Prelude.{None}
use Rattle.replay_shards.proofs.failures.first_stop.Given as goal

abbrev pub invariant-loop-shard : goal.invariant-loop-shard
invariant-loop-shard l = All (λ stop. stop ≡ None) (take l.shard l.stops)
