use Rattle.std.proofs.Common.{◌≡◌, ◌++◌, List, filter}
use Rattle.std.specs.VecDeque.Iter.{deque_iter_rest}
use Rattle.keyspace.specs.Processed.{Processed}
use Rattle.explanations.specs.Written.{all_written}
use Rattle.explanations.specs.Explains.{explains}
use Rattle.explanations.specs.Found.{IsFound}
use Rattle.explanations.proofs.write_search.search.Given as goal

-- the batches looked at are found
abbrev pub invariant-loop-processed : goal.invariant-loop-processed
invariant-loop-processed l = record {
  seen : List Processed;
  split : l.kept.items ≡ seen ++ deque_iter_rest l.processed-iterator;
  found : IsFound (filter (explains l.question.version l.question.txn l.question.snapshot l.question.range) (all_written seen)) l.found;
}
