-- The conflicts of rejected transactions: which range was read, and which was written. This project's own.
use Rattle.std.specs.Prelude.{ℕ, ◌+◌, List, [], ◌∷◌, ◌++◌, flat_map, Option, Some, None}
use Rattle.keys.specs.declared.range.Range.{Range}
use Rattle.keyspace.specs.declared.txn.Txn.{Txn}
use Rattle.keyspace.specs.declared.batch.Batch.{Batch}
use Rattle.keyspace.specs.declared.reply.Entry.{Entry}
use Rattle.keyspace.specs.declared.reply.Verdict.{Verdict}
use Rattle.keyspace.specs.declared.reply.Verdict.TheVariants.{Conflict, TooOld, Committed}
use Rattle.keyspace.specs.Processed.{Processed}
use Rattle.explanations.specs.Written.{Written, all_written, newest_write}
use Rattle.explanations.specs.Explains.{explaining_range}

-- a read range in conflict, and the range of the newest write that it conflicts with
pub record InConflict : Type 0 where
  pub read : Range
  pub written : Range

-- a read range with the newest write that it conflicts with; nothing if there is none
abbrev pub in_conflict : Range → Option Written → List InConflict
in_conflict range None = []
in_conflict range (Some w) = record { read = range; written = w.range } ∷ []

-- the same for a read range of the transaction at index j of the batch that was processed last
abbrev pub conflict_of : List Processed → Batch → ℕ → Txn → Range → List InConflict
conflict_of ps b j t range = in_conflict range (newest_write (explaining_range (all_written ps) b.version j t.snapshot (Some range)))

-- the conflicts of that transaction, in the order of its read ranges
abbrev pub conflicts_of : List Processed → Batch → ℕ → Txn → List InConflict
conflicts_of ps b j t = flat_map (conflict_of ps b j t) t.reads

-- the conflicts of a transaction, if it was rejected as a conflict
abbrev pub rejected_by : Verdict → List InConflict → List (List InConflict)
rejected_by Conflict found = found ∷ []
rejected_by TooOld found = []
rejected_by Committed found = []

-- those of transactions with their entries; the first of them has this index
abbrev pub rejected_from : List Processed → Batch → ℕ → List Txn → List Entry → List (List InConflict)
rejected_from ps b j (t ∷ ts) (e ∷ es) = rejected_by e.verdict (conflicts_of ps b j t) ++ rejected_from ps b (j + 1) ts es
rejected_from ps b j [] es = []
rejected_from ps b j (t ∷ ts) [] = []

-- those of the batch that was processed last
abbrev pub rejected_last : List Processed → Processed → List (List InConflict)
rejected_last ps p = rejected_from ps p.batch 0 p.batch.txns p.reply.entries

-- the conflicts of the later batches; each batch conflicts with writes of batches up to itself
abbrev pub rejected_after : List Processed → List Processed → List (List InConflict)
rejected_after before [] = []
rejected_after before (p ∷ ps) = rejected_last (before ++ p ∷ []) p ++ rejected_after (before ++ p ∷ []) ps

-- The transactions that were rejected as conflicts, each by its conflicts.
abbrev pub rejected_txns : List Processed → List (List InConflict)
rejected_txns ps = rejected_after [] ps
