use Rattle.std.proofs.Common.{◌≡◌, ◌≤◌, ◌++◌, map, slice_get, slice_range, Some}
use Rattle.keyspace.specs.declared.txn.Txn.{Txn}
use Rattle.conflict.specs.Lookup.{asked_at, query_named}
use Rattle.conflict.proofs.lookup.push_reads.Given as goal

abbrev pub invariant-loop-read : goal.invariant-loop-read
invariant-loop-read l =
    (l.from ≤ l.read)
    × ((txn : Txn) → slice_get l.txns l.index ≡ Some txn
    → map (query_named l.txns) l.names.items
    ≡ map (query_named l.txns) l.fn.names.items ++ map Some (asked_at txn.snapshot (slice_range txn.reads l.from l.read)))
