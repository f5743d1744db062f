use Rattle.std.proofs.Common.{◌≡◌, ℕ, List, length, take}
use Rattle.keys.specs.Sorting.{indices_of}
use Rattle.keys.specs.Numbering.{AreNumbered, OthersStay}
use Rattle.keys.proofs.Reaching.{AreReached}
use Rattle.keys.proofs.gap_runs.end_ranks.reach_ends.Given as goal

abbrev pub invariant-loop-place : goal.invariant-loop-place
invariant-loop-place g l = record {
  as_many : length l.runs ≡ length l.fn.runs;
  reached : (keys : List (List ℕ))
      → AreNumbered (g.L.RangeList.ranges l.ranges) l.sorted keys l.begin_count l.fn.runs
      → AreReached (g.L.RangeList.ranges l.ranges) keys (indices_of l.sorted) (indices_of (take l.place l.sorted)) l.runs;
  others : OthersStay l.sorted l.fn.runs l.runs;
}
