-- The ranges of the transactions of a batch as one list, and which of them are written. This project's own numbering.
use Rattle.std.specs.Prelude.{ℕ, Bool, true, false, List, ◌++◌, length, replicate, flat_map, slice_index_or}
use Rattle.keys.specs.declared.range.Range.{Range}
use Rattle.keyspace.specs.declared.txn.Txn.{Txn}

-- the ranges of a transaction, the read ranges first
abbrev pub ranges_of_txn : Txn → List Range
ranges_of_txn t = t.reads ++ t.writes

-- the ranges of the transactions, in order
abbrev pub ranges_in : List Txn → List Range
ranges_in txns = flat_map ranges_of_txn txns

-- those that are written
abbrev pub writes_in : List Txn → List Range
writes_in txns = flat_map (λ t. t.writes) txns

-- for each range of a transaction, whether it is a write range
abbrev pub marks_of_txn : Txn → List Bool
marks_of_txn t = replicate (length t.reads) false ++ replicate (length t.writes) true

-- for each range of the transactions, in order
abbrev pub write_marks : List Txn → List Bool
write_marks txns = flat_map marks_of_txn txns

-- whether the range at the index is a write range
abbrev pub is_write_in : List Txn → ℕ → Bool
is_write_in txns index = slice_index_or (write_marks txns) index false
