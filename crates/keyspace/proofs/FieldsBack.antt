-- Ranges and transactions have the fields that they are made of, and these keep their limits.
use Rattle.std.proofs.Common.{◌≡◌, List, [], ◌∷◌, map, refl, ap, ap₂, All, slice_index_or}
use Rattle.std.proofs.lemmas.List.{length-map}
use Rattle.std.proofs.lemmas.List.Elements.{All-head, All-tail, All-map}
use Rattle.keys.specs.declared.range.Range.{Range}
use Rattle.keyspace.specs.declared.txn.Txn.{Txn}
use Rattle.keyspace.specs.storage.Fields.{RangeFields, TxnFields, range_fields, txn_fields, RangeHolds, TxnLimits, ranges_with, txn_with, txns_with}

pub fields_of_ranges : (ranges : List RangeFields) (holds : All RangeHolds ranges)
    → map range_fields (ranges_with ranges holds) ≡ ranges
fields_of_ranges [] holds = refl
fields_of_ranges (range ∷ ranges) holds =
    ap (λ rest. range ∷ rest) (fields_of_ranges ranges (All-tail RangeHolds range ranges holds))

pub fields_of_txn : (txn : TxnFields) (limits : TxnLimits txn) → txn_fields (txn_with txn limits) ≡ txn
fields_of_txn txn limits = λ i. record {
  snapshot = txn.snapshot;
  marked = txn.marked;
  reads = fields_of_ranges txn.reads limits.reads i;
  writes = fields_of_ranges txn.writes limits.writes i;
}

pub fields_of_txns : (txns : List TxnFields) (limits : All TxnLimits txns)
    → map txn_fields (txns_with txns limits) ≡ txns
fields_of_txns [] limits = refl
fields_of_txns (txn ∷ txns) limits =
    ap₂ ◌∷◌ (fields_of_txn txn (All-head TxnLimits txn txns limits))
    (fields_of_txns txns (All-tail TxnLimits txn txns limits))

pub holds_of_range : (range : Range) → RangeHolds (range_fields range)
holds_of_range range = record {
  begin = range.begin_is_key;
  end = range.end_is_key;
  ordered = range.ordered;
}

pub holds_of_ranges : (ranges : List Range) → All RangeHolds (map range_fields ranges)
holds_of_ranges ranges =
    All-map RangeHolds range_fields ranges (λ k d l. holds_of_range (slice_index_or ranges k d))

pub limits_of_txn : (txn : Txn) → TxnLimits (txn_fields txn)
limits_of_txn txn = record {
  snapshot = txn.natural;
  few_reads = rw (length-map txn.reads range_fields) txn.few_reads;
  few_writes = rw (length-map txn.writes range_fields) txn.few_writes;
  reads = holds_of_ranges txn.reads;
  writes = holds_of_ranges txn.writes;
}
