-- How the transactions of a batch are kept: one buffer with the bytes of all keys, one span per range, and one row per transaction.
-- This project's own.
use Rattle.std.specs.Prelude.{◌≡◌, ℕ, ◌+◌, ◌-◌, ◌≤◌, List, [], ◌∷◌, length, map, slice_range, All}
use Rattle.std.specs.Coded.{×_prop, le_prop}
use Rattle.std.proofs.Props.{props}
use Rattle.keyspace.specs.declared.span.Span.{Span}
use Rattle.keyspace.specs.declared.row.Row.{Row}
use Rattle.keyspace.specs.storage.Fields.{RangeFields, TxnFields, TxnLimits}

-- n bytes of the buffer, from an index on
abbrev pub bytes_at : List ℕ → ℕ → ℕ → List ℕ
bytes_at buffer from count = slice_range buffer from (from + count)

-- the range of a span: its keys lie in the buffer
abbrev pub range_of_span : List ℕ → Span → RangeFields
range_of_span buffer span = record {
  begin = bytes_at buffer span.begin span.begin_length;
  end = bytes_at buffer span.end span.end_length;
}

-- the transaction of a row, whose spans begin at an index: those of its read ranges, then those of its write ranges
abbrev pub txn_of_row : List ℕ → List Span → ℕ → Row → TxnFields
txn_of_row buffer spans from row = record {
  snapshot = row.snapshot;
  marked = row.marked;
  reads = map (range_of_span buffer) (slice_range spans from (row.end - row.writes));
  writes = map (range_of_span buffer) (slice_range spans (row.end - row.writes) row.end);
}

-- the transactions of rows, in order, whose spans are in sequence from an index on
abbrev pub txns_from : List ℕ → List Span → ℕ → List Row → List TxnFields
txns_from buffer spans from [] = []
txns_from buffer spans from (row ∷ rows) = txn_of_row buffer spans from row ∷ txns_from buffer spans row.end rows

-- what the tables mean
abbrev pub txns_of_tables : List ℕ → List Span → List Row → List TxnFields
txns_of_tables buffer spans rows = txns_from buffer spans 0 rows

-- both keys of the span lie within a buffer of this length
pub record LiesWithin (length : ℕ) (span : Span) : Type 0 where
  pub begin : span.begin + span.begin_length ≤ length
  pub end : span.end + span.end_length ≤ length

-- the spans of the rows are in sequence, from one index to another
abbrev pub AreRows : ℕ → List Row → ℕ → Type 0
AreRows from [] to = from ≡ to
AreRows from (row ∷ rows) to = (from + row.writes ≤ row.end) × AreRows row.end rows to

-- they do so in one way at most
pub AreRows-prop : (from : ℕ) (rows : List Row) (to : ℕ) → IsProp (AreRows from rows to)
AreRows-prop from [] to = hlevel props
AreRows-prop from (row ∷ rows) to = ×_prop le_prop (AreRows-prop row.end rows to)

-- the tables fit together, and what they mean keeps its limits
pub record AreTables (buffer : List ℕ) (spans : List Span) (rows : List Row) : Type 0 where
  pub spans_within : All (LiesWithin (length buffer)) spans
  pub rows_fit : AreRows 0 rows (length spans)
  pub holds : All TxnLimits (txns_of_tables buffer spans rows)

pub AreTables-prop : (buffer : List ℕ) (spans : List Span) (rows : List Row) → IsProp (AreTables buffer spans rows)
AreTables-prop buffer spans rows = hlevel (props, AreRows-prop 0 rows (length spans))
