use Rattle.std.proofs.Common.{◌≡◌, map, take}
use Rattle.std.specs.Prelude.{flat_map}
use Rattle.replay_shards.proofs.sampled_points.refs_of.Given as goal

abbrev pub invariant-loop-own : goal.invariant-loop-own
invariant-loop-own l = map (λ batch. batch.now) l.refs.items ≡ flat_map (λ own. own.items) (take l.own-index l.samples)
