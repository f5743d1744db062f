use Rattle.std.proofs.Common.{◌≤◌, ◌-◌, ◌++◌, List, length, take, filter}
use Rattle.explanations.specs.Written.{Written, written_from}
use Rattle.explanations.specs.Explains.{explains}
use Rattle.explanations.specs.Found.{IsFound}
use Rattle.explanations.proofs.write_search.search_batch.Given as goal

-- the transactions up to the next one are found
abbrev pub invariant-loop-txn : goal.invariant-loop-txn
invariant-loop-txn l = record {
  within : l.next ≤ length l.processed.batch.txns;
  found : (ws : List Written) → IsFound ws l.fn.found
      → IsFound (ws ++ filter (explains l.question.version l.question.txn l.question.snapshot l.question.range)
      (written_from l.processed.proxy l.processed.batch.version 0 (take l.next l.processed.batch.txns) (take l.next l.processed.reply.entries)))
      l.found;
}

abbrev pub decreases-loop-txn : goal.decreases-loop-txn
decreases-loop-txn l = length l.processed.batch.txns - l.next
