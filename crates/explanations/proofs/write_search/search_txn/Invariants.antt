use Rattle.std.proofs.Common.{◌≡◌, ◌++◌, List, take, filter, Some, slice_get}
use Rattle.keyspace.specs.declared.txn.Txn.{Txn}
use Rattle.explanations.specs.Written.{Written, written_by}
use Rattle.explanations.specs.Explains.{explains}
use Rattle.explanations.specs.Found.{IsFound}
use Rattle.explanations.proofs.write_search.search_txn.Given as goal

-- the ranges looked at are found
abbrev pub invariant-loop-index : goal.invariant-loop-index
invariant-loop-index l = (txn : Txn) → slice_get l.txns l.origin.txn ≡ Some txn
    → (ws : List Written) → IsFound ws l.fn.found
    → IsFound (ws ++ filter (explains l.question.version l.question.txn l.question.snapshot l.question.range)
    (written_by l.origin.proxy l.origin.version l.origin.txn (take l.index txn.writes))) l.found
