use Rattle.std.proofs.Common.{◌≡◌, ◌≤◌, ℕ, List, length, take}
use Rattle.keys.specs.Numbering.{OthersStay}
use Rattle.keys.proofs.Numbering.{AreNumberedSoFar}
use Rattle.keys.proofs.gap_runs.begin_numbers.number_begins.Given as goal

-- the ranges so far are numbered
abbrev pub invariant-loop-place : goal.invariant-loop-place
invariant-loop-place g l = record {
  as_many : length l.runs ≡ length l.fn.runs;
  few : l.begin_count ≤ l.place;
  numbered : (keys : List (List ℕ))
      × AreNumberedSoFar (g.L.RangeList.ranges l.ranges) (take l.place l.sorted) keys l.begin_count l.runs;
  others : OthersStay (take l.place l.sorted) l.fn.runs l.runs;
}
