use Rattle.std.proofs.Common.{◌≡◌, ℕ, List, [], length}
use Rattle.keys.specs.declared.range.Range.{Range}
use Rattle.keyspace.specs.storage.BatchRanges.{ranges_in}
use Rattle.conflict.specs.Written.{AreRunsOf}
use Rattle.conflict.specs.InBatch.{in_batches}
use Rattle.conflict.proofs.JudgedTo.{JudgedBelow}
use Rattle.conflict.proofs.RankedTxns.{ranked_txns}
use Rattle.conflict.proofs.in_batch.judge_in_batch.Given as goal

abbrev pub invariant-loop-index : goal.invariant-loop-index
invariant-loop-index l = record {
  count : length l.gaps ≡ length l.fn.gaps;
  judged : (keys : List (List ℕ)) (ranked_as : Range → Range) → length l.fn.gaps ≡ length keys
      → AreRunsOf keys l.runs (ranges_in (ranked_txns ranked_as l.batch.txns))
      → JudgedBelow keys (in_batches [] (ranked_txns ranked_as l.batch.txns) l.fn.entries) l.index l.rest l.gaps
      (ranked_txns ranked_as l.batch.txns) l.entries;
}
