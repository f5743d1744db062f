use Rattle.std.proofs.Common.{List, ◌++◌, map, take}
use Rattle.std.specs.List.{zip}
use Rattle.batches_report.specs.JudgedTxns.{JudgedTxn, judged_with}
use Rattle.batches_report.specs.Tallied.{Counts}
use Rattle.batches_report.proofs.txn_tally.TxnTally.add_batch.Given as goal

abbrev pub invariant-loop-index : goal.invariant-loop-index
invariant-loop-index l = (js : List JudgedTxn) → Counts js l.fn.self
    → Counts (js ++ map (judged_with l.batch.version) (take l.index (zip l.batch.txns l.reply.entries))) l.self
