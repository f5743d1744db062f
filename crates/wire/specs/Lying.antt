-- The location of the keys of a frame: in the frame itself, from which none is copied. This project's own.
use Rattle.std.specs.Prelude.{◌≡◌, ◌⊎◌, ℕ, ◌+◌, ◌-◌, ◌<◌, ◌≤◌, List, [], ◌∷◌, ◌++◌, length, map, slice_range, ◌==◌, if◌then◌else◌}
use Rattle.keyspace.specs.declared.span.Span.{Span}
use Rattle.keyspace.specs.declared.row.Row.{Row}
use Rattle.keyspace.specs.storage.Tables.{bytes_at, range_of_span}
use Rattle.wire.specs.declared.tables.FrameTables.{FrameTables}
use Rattle.wire.specs.Fields.{RangeFields, TxnFields, BatchFields}
use Rattle.wire.specs.Spelling.{single_key}

-- the frame ends with what is still to be read
abbrev pub IsRestOf : List ℕ → List ℕ → Type 0
IsRestOf frame rest = (front : List ℕ) × (frame ≡ front ++ rest)

-- the index in the frame where the rest begins
abbrev pub index_of : List ℕ → List ℕ → ℕ
index_of frame rest = length frame - length rest

-- The range of a span, as the frame spells it: a single key has no end there, and its span ends where it begins.
abbrev pub range_read : List ℕ → Span → RangeFields
range_read frame span =
    if span.begin == span.end then single_key (bytes_at frame span.begin span.begin_length)
    else range_of_span frame span

-- the transaction of a row, whose spans begin at an index, as the frame spells it
abbrev pub txn_read : List ℕ → List Span → ℕ → Row → TxnFields
txn_read frame spans from row = record {
  snapshot = row.snapshot;
  marked = row.marked;
  reads = map (range_read frame) (slice_range spans from (row.end - row.writes));
  writes = map (range_read frame) (slice_range spans (row.end - row.writes) row.end);
}

-- the transactions of rows, in order, whose spans are in sequence from an index on
abbrev pub txns_read : List ℕ → List Span → ℕ → List Row → List TxnFields
txns_read frame spans from [] = []
txns_read frame spans from (row ∷ rows) = txn_read frame spans from row ∷ txns_read frame spans row.end rows

-- the batch of the tables, as the frame spells it
abbrev pub batch_of_tables : List ℕ → FrameTables → BatchFields
batch_of_tables frame tables = record {
  previous = tables.previous;
  version = tables.version;
  received = tables.received;
  txns = txns_read frame tables.spans.items 0 tables.rows.items;
}

-- both keys of the span are before this index, the end after the begin
abbrev pub HasBothKeys : Span → ℕ → Type 0
HasBothKeys span to = (span.begin + span.begin_length < span.end) × (span.end + span.end_length ≤ to)

-- the key of the span is before this index; its end has the byte after it too
abbrev pub HasSingleKey : Span → ℕ → Type 0
HasSingleKey span to =
    (span.end ≡ span.begin) × (span.end_length ≡ span.begin_length + 1) × (span.begin + span.begin_length ≤ to)

-- the keys of the span are after one index and before another
pub record IsBetween (from : ℕ) (span : Span) (to : ℕ) : Type 0 where
  pub begin : from < span.begin
  pub keys : HasSingleKey span to ⊎ HasBothKeys span to

-- the spans are in sequence, with a byte or more before each
abbrev pub AreApart : ℕ → List Span → ℕ → Type 0
AreApart from [] to = from ≤ to
AreApart from (span ∷ spans) to = (middle : ℕ) × IsBetween from span middle × AreApart middle spans to
