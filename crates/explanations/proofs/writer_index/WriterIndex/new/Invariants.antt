use Rattle.explanations.proofs.Indexing.{IsIndexTo}
use Rattle.explanations.proofs.writer_index.WriterIndex.new.Given as goal

-- the transactions looked at are in the index
abbrev pub invariant-loop-txn : goal.invariant-loop-txn
invariant-loop-txn l = IsIndexTo l.index l.txn l.txns l.entries
