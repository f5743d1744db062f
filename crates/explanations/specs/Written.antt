-- The committed writes of a chain, each with its origin. This project's own; `writes` of `keyspace` has them without it.
use Rattle.std.specs.Prelude.{ℕ, ◌+◌, ℤ, List, [], ◌∷◌, ◌++◌, map, flat_map, Option, Some, None}
use Rattle.keys.specs.declared.range.Range.{Range}
use Rattle.keyspace.specs.declared.txn.Txn.{Txn}
use Rattle.keyspace.specs.declared.reply.Entry.{Entry}
use Rattle.keyspace.specs.Processed.{Processed}
use Rattle.keyspace.specs.Writes.{counted_ranges}

-- a write range of a committed transaction
pub record Written : Type 0 where
  -- the proxy and the version of its batch
  pub proxy : ℕ
  pub version : ℤ
  -- the index of the transaction in the batch
  pub txn : ℕ
  pub range : Range

-- ranges that this transaction wrote
abbrev pub written_by : ℕ → ℤ → ℕ → List Range → List Written
written_by proxy version txn ranges =
    map (λ range. record { proxy = proxy; version = version; txn = txn; range = range }) ranges

-- the writes of the transactions whose entries say committed, in order; the first of them has this index
abbrev pub written_from : ℕ → ℤ → ℕ → List Txn → List Entry → List Written
written_from proxy version txn (t ∷ ts) (e ∷ es) =
    written_by proxy version txn (counted_ranges e.verdict t.writes) ++ written_from proxy version (txn + 1) ts es
written_from proxy version txn [] es = []
written_from proxy version txn (t ∷ ts) [] = []

-- the committed writes of a batch
abbrev pub written_in : Processed → List Written
written_in p = written_from p.proxy p.batch.version 0 p.batch.txns p.reply.entries

-- all committed writes, in order
abbrev pub all_written : List Processed → List Written
all_written ps = flat_map written_in ps

-- the last of the writes
abbrev pub newest_write : List Written → Option Written
newest_write [] = None
newest_write (w ∷ []) = Some w
newest_write (w ∷ x ∷ ws) = newest_write (x ∷ ws)
