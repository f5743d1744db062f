use Rattle.keyspace.proofs.Waiting.{next_due_leaves}
use Rattle.keyspace.proofs.laws.leaving.Goals as goal

pub returns : goal.returns
returns c = record { next_due = next_due_leaves }
