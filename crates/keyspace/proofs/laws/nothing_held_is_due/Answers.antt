use Rattle.keyspace.proofs.Waiting.{run_quiet}
use Rattle.keyspace.proofs.laws.nothing_held_is_due.Goals as goal

pub returns : goal.returns
returns c = record { waits = run_quiet }
