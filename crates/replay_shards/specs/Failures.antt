-- What failed of all shards together. This project's own.
use Rattle.std.specs.Prelude.{◌≡◌, Bool, List, [], ◌∷◌, map, take, Option, None, Some, slice_get}
use Rattle.std.specs.Option.{option_or}
use Rattle.std.specs.List.{All, list_any}
use Rattle.wire.specs.declared.error.WireError.{WireError}
use Rattle.limits.specs.declared.stop.Stop.{Stop}
use Rattle.replay_output.specs.declared.failures.ProxyFailure.{ProxyFailure}
use Rattle.replay_shards.specs.declared.failures.ShardStop.{ShardStop}

-- the first of them that is there
abbrev pub first_some : {X : Type 0} → List (Option X) → Option X
first_some [] = None
first_some (first ∷ rest) = option_or first (first_some rest)

abbrev pub fault_of : ProxyFailure → Option WireError
fault_of failure = failure.fault

abbrev pub has_loss : ProxyFailure → Bool
has_loss failure = failure.lost

-- the failure of a proxy: the first fault in the order of the shards, and a loss if a shard has one
pub record IsFailureTogether (each : List ProxyFailure) (failure : ProxyFailure) : Type 0 where
  pub fault : failure.fault ≡ first_some (map fault_of each)
  pub lost : failure.lost ≡ list_any has_loss each

-- the stop of the first shard that met one
pub record IsFirstStop (stops : List (Option Stop)) (met : ShardStop) : Type 0 where
  pub before : All (λ stop. stop ≡ None) (take met.shard stops)
  pub there : slice_get stops met.shard ≡ Some (Some met.stop)
