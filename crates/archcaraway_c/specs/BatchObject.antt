-- Transactions that C gives by their keys, without a frame. This project's own.
use Rattle.std.specs.Prelude.{◌≡◌, ◌≤◌, ◌<◌, ◌<ℤ◌, ◌⊎◌, ℕ, ◌+◌, ℤ, pos, Bool, List, length, map, slice_range}
use Rattle.std.specs.List.{Contains}
use Rattle.keys.specs.Key.{IsBefore}
use Rattle.keys.specs.declared.key.TheConstants.{MAX_KEY_LENGTH}
use Rattle.keyspace.specs.declared.batch.Batch.{Batch}
use Rattle.keyspace.specs.declared.batch.TheConstants.{MAX_TXNS}
use Rattle.keyspace.specs.declared.txn.TheConstants.{MAX_RANGES}
use Rattle.keyspace.specs.declared.span.Span.{Span}
use Rattle.keyspace.specs.storage.Fields.{RangeFields, TxnFields, RangeHolds, txn_fields}
use Rattle.wire.specs.declared.error.WireError.TheVariants as wire
use Rattle.archcaraway_c.specs.declared.key_span.KeySpan.{KeySpan}
use Rattle.archcaraway_c.specs.declared.refusal.Refusal.{Refusal}
use Rattle.archcaraway_c.specs.declared.refusal.Refusal.TheVariants.{Wire, Argument}

-- the range whose keys lie among the bytes
abbrev pub range_given : List ℕ → KeySpan → RangeFields
range_given keys span = record {
  begin = slice_range keys span.begin (span.begin + span.begin_length);
  end = slice_range keys span.end (span.end + span.end_length);
}

-- the transaction with these ranges
abbrev pub txn_given : ℤ → Bool → List ℕ → List KeySpan → List KeySpan → TxnFields
txn_given snapshot marked keys reads writes = record {
  snapshot = snapshot;
  marked = marked;
  reads = map (range_given keys) reads;
  writes = map (range_given keys) writes;
}

-- both keys are within this number of bytes, and neither is too long
pub record IsWithin (bytes : ℕ) (span : KeySpan) : Type 0 where
  pub begin : span.begin + span.begin_length ≤ bytes
  pub end : span.end + span.end_length ≤ bytes
  pub short_begin : span.begin_length ≤ MAX_KEY_LENGTH
  pub short_end : span.end_length ≤ MAX_KEY_LENGTH

-- and they are those of a range
abbrev pub IsRangeOf : List ℕ → KeySpan → Type 0
IsRangeOf keys span = IsWithin (length keys) span × RangeHolds (range_given keys span)

-- the span in a buffer, after this number of other bytes
abbrev pub span_after : ℕ → KeySpan → Span
span_after before span = record {
  begin = before + span.begin;
  begin_length = span.begin_length;
  end = before + span.end;
  end_length = span.end_length;
}

-- Why a range is refused: a key is too long, its end comes before its begin, or a key doesn't lie among the bytes.
abbrev pub SpanRefuses : List ℕ → KeySpan → Refusal → Type 0
SpanRefuses keys span refusal =
    ((refusal ≡ Wire wire.KeyLength) × ((MAX_KEY_LENGTH < span.begin_length) ⊎ (MAX_KEY_LENGTH < span.end_length)))
    ⊎ ((refusal ≡ Wire wire.Inverted) × IsBefore (range_given keys span).end (range_given keys span).begin)
    ⊎ ((refusal ≡ Argument)
    × ((length keys < span.begin + span.begin_length) ⊎ (length keys < span.end + span.end_length)))

-- Why a transaction isn't added to those that a batch has: its snapshot is negative, there are too many transactions or ranges,
-- one of its ranges is refused, or memory is.
abbrev pub AddRefuses : List TxnFields → ℤ → List ℕ → List KeySpan → List KeySpan → Refusal → Type 0
AddRefuses txns snapshot keys reads writes refusal =
    ((refusal ≡ Wire wire.Version) × (snapshot <ℤ pos 0))
    ⊎ ((refusal ≡ Wire wire.Count)
    × ((MAX_TXNS ≤ length txns) ⊎ ((MAX_RANGES < length reads) ⊎ (MAX_RANGES < length writes))))
    ⊎ ((span : KeySpan) × (Contains reads span ⊎ Contains writes span) × SpanRefuses keys span refusal)
    ⊎ (refusal ≡ Wire wire.Memory)

-- Why the transactions of another batch aren't appended: there would be too many, or memory is refused.
abbrev pub AppendRefuses : List TxnFields → List TxnFields → Refusal → Type 0
AppendRefuses txns others refusal =
    ((refusal ≡ Wire wire.Count) × (MAX_TXNS < length txns + length others)) ⊎ (refusal ≡ Wire wire.Memory)

-- the batch has these versions, and exactly these transactions
pub record IsBatchOf (previous version received : ℤ) (txns : List TxnFields) (batch : Batch) : Type 0 where
  pub previous_is : batch.previous ≡ previous
  pub version_is : batch.version ≡ version
  pub received_is : batch.received ≡ received
  pub txns_are : map txn_fields batch.txns ≡ txns
