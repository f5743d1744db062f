use Rattle.std.proofs.Common.{◌≡◌}
use Rattle.structure_tests.proofs.lane_threads.send_at_last.Given as goal

abbrev pub invariant-loop : goal.invariant-loop
invariant-loop g l = (l.port.lane ≡ l.fn.port.lane) × (l.port.capacity ≡ l.fn.port.capacity)

abbrev pub invariant-loop-attempt : goal.invariant-loop-attempt
invariant-loop-attempt g l = (l.port.lane ≡ l.fn.port.lane) × (l.port.capacity ≡ l.fn.port.capacity)
