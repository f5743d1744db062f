use Rattle.keyspace.proofs.Chaining.{run_chain}
use Rattle.keyspace.proofs.laws.runs_are_chains.Goals as goal

pub returns : goal.returns
returns c = record { chain = run_chain }
