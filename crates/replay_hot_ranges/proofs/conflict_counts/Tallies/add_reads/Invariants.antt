use Rattle.std.proofs.Common.{◌≡◌, [], List, Some, slice_get, take}
use Rattle.std.specs.List.{flat_map}
use Rattle.keyspace.specs.declared.txn.Txn.{Txn}
use Rattle.replay_hot_ranges.specs.Conflicts.{InConflict, conflict_of}
use Rattle.replay_hot_ranges.specs.RangeTally.{AreTalliesWith}
use Rattle.replay_hot_ranges.proofs.conflict_counts.Tallies.add_reads.Given as goal

-- the conflicts of the read ranges so far
abbrev pub invariant-loop-read : goal.invariant-loop-read
invariant-loop-read l =
    (t : Txn) (txns : List (List InConflict)) → slice_get l.batch.txns l.txn ≡ Some t → l.reads ≡ t.reads
    → AreTalliesWith txns [] l.fn.self
    → AreTalliesWith txns (flat_map (conflict_of l.history.kept l.batch l.txn t) (take l.read t.reads)) l.self
