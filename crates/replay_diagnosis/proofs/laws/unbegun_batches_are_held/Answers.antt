use Rattle.std.proofs.Common.{refl}
use Rattle.keyspace.specs.Run.{start}
use Rattle.replay_diagnosis.proofs.Holding.{none_processed}
use Rattle.replay_diagnosis.proofs.laws.unbegun_batches_are_held.Goals as goal

pub returns : goal.returns
returns c = record { none = λ window log none. none_processed window log start (record { processed = refl; held = tt }) none }
