use Rattle.batches_tasks.proofs.EveryKey.{meets_every_range}
use Rattle.batches_tasks.proofs.laws.opening_meets_every_range.Goals as goal

pub returns : goal.returns
returns c = record { law = meets_every_range }
