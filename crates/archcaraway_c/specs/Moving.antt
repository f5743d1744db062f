-- The positions of ranges and transactions that are appended to tables. This project's own.
use Rattle.std.specs.Prelude.{ℕ, ◌+◌}
use Rattle.keyspace.specs.declared.span.Span.{Span}
use Rattle.keyspace.specs.declared.row.Row.{Row}

-- the span in a buffer, after this number of other bytes
abbrev pub span_moved : ℕ → Span → Span
span_moved bytes span = record {
  begin = bytes + span.begin;
  begin_length = span.begin_length;
  end = bytes + span.end;
  end_length = span.end_length;
}

-- the row in tables, after this number of other spans
abbrev pub row_moved : ℕ → Row → Row
row_moved spans row =
    record { snapshot = row.snapshot; end = spans + row.end; writes = row.writes; marked = row.marked }
