use Rattle.std.proofs.Common.{◌++◌, List, take}
use Rattle.replay_hot_ranges.specs.Conflicts.{InConflict, rejected_from}
use Rattle.replay_hot_ranges.specs.RangeTally.{AreTallies}
use Rattle.replay_hot_ranges.proofs.conflict_counts.Tallies.add_txns.Given as goal

-- the conflicts of the transactions so far
abbrev pub invariant-loop-txn : goal.invariant-loop-txn
invariant-loop-txn l =
    (txns : List (List InConflict)) → AreTallies txns l.fn.self
    → AreTallies (txns ++ rejected_from l.history.kept l.batch 0 (take l.txn l.batch.txns) (take l.txn l.entries)) l.self
