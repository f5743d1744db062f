use Rattle.conflict.proofs.InBatch.{each_history_first}
use Rattle.conflict.proofs.laws.history_first.Goals as goal

pub returns : goal.returns
returns c = record { scan = each_history_first }
