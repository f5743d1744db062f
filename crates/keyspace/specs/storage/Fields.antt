-- What ranges and transactions say, without the facts that their types carry, and back.
use Rattle.std.specs.Prelude.{◌≡◌, ℕ, suc, ◌≤◌, ℤ, pos, ◌≤ℤ◌, Bool, List, [], ◌∷◌, length, map, All}
use Rattle.std.proofs.Common.{refl, ap}
use Rattle.std.proofs.lemmas.List.Elements.{All-head, All-tail}
use Rattle.keys.specs.Key.{IsKey, IsAtMost}
use Rattle.keys.specs.declared.range.Range.{Range}
use Rattle.keyspace.specs.declared.txn.TheConstants.{MAX_RANGES}
use Rattle.keyspace.specs.declared.txn.Txn.{Txn}

pub record RangeFields : Type 0 where
  pub begin : List ℕ
  pub end : List ℕ

pub record TxnFields : Type 0 where
  pub snapshot : ℤ
  pub marked : Bool
  pub reads : List RangeFields
  pub writes : List RangeFields

abbrev pub range_fields : Range → RangeFields
range_fields range = record { begin = range.begin; end = range.end }

abbrev pub txn_fields : Txn → TxnFields
txn_fields txn = record {
  snapshot = txn.snapshot;
  marked = txn.marked;
  reads = map range_fields txn.reads;
  writes = map range_fields txn.writes;
}

-- the fields are those of a range
pub record RangeHolds (range : RangeFields) : Type 0 where
  pub begin : IsKey range.begin
  pub end : IsKey range.end
  pub ordered : IsAtMost range.begin range.end

-- the fields of a transaction are within its limits
pub record TxnLimits (txn : TxnFields) : Type 0 where
  pub snapshot : pos 0 ≤ℤ txn.snapshot
  pub few_reads : length txn.reads ≤ MAX_RANGES
  pub few_writes : length txn.writes ≤ MAX_RANGES
  pub reads : All RangeHolds txn.reads
  pub writes : All RangeHolds txn.writes

-- the range that has these fields
abbrev pub range_with : (range : RangeFields) → RangeHolds range → Range
range_with range holds = record {
  begin = range.begin;
  end = range.end;
  begin_is_key = holds.begin;
  end_is_key = holds.end;
  ordered = holds.ordered;
}

-- the ranges that have these fields
abbrev pub ranges_with : (ranges : List RangeFields) → All RangeHolds ranges → List Range
ranges_with [] holds = []
ranges_with (range ∷ ranges) holds =
    range_with range (All-head RangeHolds range ranges holds) ∷ ranges_with ranges (All-tail RangeHolds range ranges holds)

pub length-ranges_with : (ranges : List RangeFields) (holds : All RangeHolds ranges) → length (ranges_with ranges holds) ≡ length ranges
length-ranges_with [] holds = refl
length-ranges_with (range ∷ ranges) holds = ap suc (length-ranges_with ranges (All-tail RangeHolds range ranges holds))

-- the transaction that has these fields
abbrev pub txn_with : (txn : TxnFields) → TxnLimits txn → Txn
txn_with txn holds = record {
  snapshot = txn.snapshot;
  marked = txn.marked;
  reads = ranges_with txn.reads holds.reads;
  writes = ranges_with txn.writes holds.writes;
  natural = holds.snapshot;
  few_reads = rw (length-ranges_with txn.reads holds.reads) holds.few_reads;
  few_writes = rw (length-ranges_with txn.writes holds.writes) holds.few_writes;
}

-- the transactions that have these fields
abbrev pub txns_with : (txns : List TxnFields) → All TxnLimits txns → List Txn
txns_with [] holds = []
txns_with (txn ∷ txns) holds =
    txn_with txn (All-head TxnLimits txn txns holds) ∷ txns_with txns (All-tail TxnLimits txn txns holds)

pub length-txns_with : (txns : List TxnFields) (holds : All TxnLimits txns) → length (txns_with txns holds) ≡ length txns
length-txns_with [] holds = refl
length-txns_with (txn ∷ txns) holds = ap suc (length-txns_with txns (All-tail TxnLimits txn txns holds))
