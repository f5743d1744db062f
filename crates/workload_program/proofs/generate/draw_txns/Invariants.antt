use Rattle.std.proofs.Common.{◌≡◌, vec_len}
use Rattle.std.specs.Prelude.{All}
use Rattle.workload_program.specs.Txns.{IsTxnOf}
use Rattle.workload_program.proofs.generate.draw_txns.Given as goal

abbrev pub invariant-loop : goal.invariant-loop
invariant-loop l = (vec_len l.txns ≡ l.counter) × All (IsTxnOf l.shape l.number) l.txns.items
