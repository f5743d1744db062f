use Rattle.std.proofs.Common.{◌≡◌, List, ◌++◌, take}
use Rattle.keyspace.specs.declared.txn.Txn.{Txn}
use Rattle.batches_tasks.specs.Stats.{txn_counts_of}
use Rattle.batches_tasks.proofs.stats.TxnCounts.add_each.Given as goal

abbrev pub invariant-loop-index : goal.invariant-loop-index
invariant-loop-index l =
    (before : List Txn) → l.fn.self ≡ txn_counts_of before → l.self ≡ txn_counts_of (before ++ take l.index l.txns)
