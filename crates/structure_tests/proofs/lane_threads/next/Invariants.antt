use Rattle.std.proofs.Common.{◌≡◌}
use Rattle.structure_tests.proofs.lane_threads.next.Given as goal

abbrev pub invariant-loop : goal.invariant-loop
invariant-loop g l = (l.intake.lane ≡ l.fn.intake.lane) × (l.intake.capacity ≡ l.fn.intake.capacity)

abbrev pub invariant-loop-attempt : goal.invariant-loop-attempt
invariant-loop-attempt g l = (l.intake.lane ≡ l.fn.intake.lane) × (l.intake.capacity ≡ l.fn.intake.capacity)
