use Rattle.std.proofs.Common.{◌+◌, ◌-◌, ◌*◌, ◌<◌, ◌≤◌, length, take, All}
use Rattle.keys.specs.Key.{IsBefore}
use Rattle.keys.specs.Sorting.{begin_at}
use Rattle.keys.proofs.gap_runs.end_ranks.gallop.Given as goal

abbrev pub invariant-loop-step : goal.invariant-loop-step
invariant-loop-step g l = record {
  within : l.count ≤ length l.sorted;
  some : 0 < l.step;
  few : l.step ≤ 2 * length l.sorted + 1;
  below : All (λ h. IsBefore (begin_at (g.L.RangeList.ranges l.ranges) h.index) l.end) (take l.count l.sorted);
}

abbrev pub decreases-loop-step : goal.decreases-loop-step
decreases-loop-step g l = length l.sorted - l.count
