use Rattle.std.proofs.Common.{◌≡◌, vec_len}
use Rattle.std.specs.Prelude.{All}
use Rattle.workload_program.specs.Txns.{IsRangeOf}
use Rattle.workload_program.proofs.ranges.draw_ranges.Given as goal

abbrev pub invariant-loop : goal.invariant-loop
invariant-loop l = (vec_len l.ranges ≡ l.counter) × All (IsRangeOf l.shape) l.ranges.items
