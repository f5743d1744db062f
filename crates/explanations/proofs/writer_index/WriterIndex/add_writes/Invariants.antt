use Rattle.std.proofs.Common.{◌≡◌, take, Some, slice_get}
use Rattle.keyspace.specs.declared.txn.Txn.{Txn}
use Rattle.explanations.specs.Writers.{AddsWrites}
use Rattle.explanations.proofs.writer_index.WriterIndex.add_writes.Given as goal

-- the ranges looked at are added
abbrev pub invariant-loop-index : goal.invariant-loop-index
invariant-loop-index l = (t : Txn) → slice_get l.txns l.txn ≡ Some t → AddsWrites l.fn.self l.self l.txn (take l.index t.writes)
