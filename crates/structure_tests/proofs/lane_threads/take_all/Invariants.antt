use Rattle.std.proofs.Common.{◌≡◌}
use Rattle.structure_tests.proofs.lane_threads.take_all.Given as goal

abbrev pub invariant-loop-number : goal.invariant-loop-number
invariant-loop-number g l = (l.intake.lane ≡ l.fn.intake.lane) × (l.intake.capacity ≡ l.fn.intake.capacity)
