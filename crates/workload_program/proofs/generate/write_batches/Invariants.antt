use Rattle.std.proofs.Common.{◌≡◌}
use Rattle.workload_program.proofs.Frames.{SoFar}
use Rattle.workload_program.proofs.generate.write_batches.Given as goal

abbrev pub invariant-loop-number : goal.invariant-loop-number
invariant-loop-number g l =
    SoFar l.fn.plan.shape l.fn.plan.transactions l.number (g.W.Sink.given l.fn.out) (g.W.Sink.given l.out)
    × (g.W.Sink.failures l.out ≡ g.W.Sink.failures l.fn.out)
