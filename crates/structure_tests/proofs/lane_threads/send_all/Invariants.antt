use Rattle.std.proofs.Common.{◌≡◌}
use Rattle.structure_tests.proofs.lane_threads.send_all.Given as goal

abbrev pub invariant-loop-number : goal.invariant-loop-number
invariant-loop-number g l = (l.port.lane ≡ l.fn.port.lane) × (l.port.capacity ≡ l.fn.port.capacity)
