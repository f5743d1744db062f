-- What appending ranges to the tables of a batch leaves. This project's own.
use Rattle.std.specs.Prelude.{◌≡◌, ℕ, List, ◌++◌, length, map, All}
use Rattle.keyspace.specs.declared.span.Span.{Span}
use Rattle.keyspace.specs.storage.Fields.{RangeFields}
use Rattle.keyspace.specs.storage.Tables.{range_of_span, LiesWithin}

-- the ranges have been appended: their keys to the buffer, and their spans to the others
pub record ArePut (buffer : List ℕ) (spans : List Span) (ranges : List RangeFields) (new_buffer : List ℕ) (new_spans : List Span)
    : Type 0 where
  pub bytes : List ℕ
  pub added : List Span
  pub buffer_is : new_buffer ≡ buffer ++ bytes
  pub spans_are : new_spans ≡ spans ++ added
  pub reported : map (range_of_span new_buffer) added ≡ ranges
  pub within : All (LiesWithin (length new_buffer)) added
