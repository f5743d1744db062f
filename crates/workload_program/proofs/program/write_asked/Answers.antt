use Rattle.workload_program.proofs.Frames.{on_err}
use Rattle.workload_program.proofs.program.write_asked.Goals as goal

pub returns-in_err-write_batches-clause-broken_off : goal.returns-in_err-write_batches-clause-broken_off
returns-in_err-write_batches-clause-broken_off g c =
    on_err c.from_residual-in_err-write_batches.result _
    (λ long. (c.in-Some.plan, c.in-Some.ensures.plan, c.in_err-write_batches.ensures.broken_off))
