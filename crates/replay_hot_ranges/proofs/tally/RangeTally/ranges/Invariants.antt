use Rattle.std.proofs.Common.{◌≡◌, ◌++◌, map}
use Rattle.replay_hot_ranges.specs.Counts.{Ends}
use Rattle.replay_hot_ranges.specs.RangeTally.{rows_of}
use Rattle.replay_hot_ranges.specs.Top.{row_of}
use Rattle.replay_hot_ranges.specs.declared.tally.Count.{Count}
use Rattle.replay_hot_ranges.proofs.tally.RangeTally.ranges.Given as goal

-- the ranges so far, and those that are left
abbrev pub invariant-loop-key : goal.invariant-loop-key
invariant-loop-key l = map row_of l.ranges.items ++ map (λ (e : Ends × Count). (e.0, e.1.conflict_count)) l.key-iterator ≡ rows_of l.self
