use Rattle.std.proofs.Common.{◌≡◌, ℕ, ◌++◌, map, string_bytes}
use Rattle.batches_report.specs.Hottest.{range_of, ranges_in}
use Rattle.batches_report.proofs.top.ranges_of.Given as goal

abbrev pub invariant-loop-name : goal.invariant-loop-name
invariant-loop-name l = map range_of l.hot.items ++ map (λ e. (string_bytes e.0, e.1)) l.name-iterator ≡ ranges_in l.heat
