use Rattle.std.proofs.Common.{◌≡◌, map, take}
use Rattle.std.specs.List.{list_any}
use Rattle.replay_shards.specs.Failures.{fault_of, first_some, has_loss}
use Rattle.replay_shards.proofs.failures.failure_together.Given as goal

abbrev pub invariant-loop-own : goal.invariant-loop-own
invariant-loop-own l = record {
  fault : l.fault ≡ first_some (map fault_of (take l.own-index l.each));
  lost : l.lost ≡ list_any has_loss (take l.own-index l.each);
}
