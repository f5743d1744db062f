use Rattle.serial.proofs.OneShard.{one_shard_each}
use Rattle.serial.proofs.laws.one_shard_per_key.Goals as goal

pub returns : goal.returns
returns c = record { one = one_shard_each }
