-- What batches add up to: pure counting. This project's own.
use Rattle.std.specs.Prelude.{ℕ, ℤ, Bool, List, [], ◌∷◌, ◌++◌, length, map, sum, fold, min, max, count_by, flat_map, Option, Some, None, if◌then◌else◌}
use Rattle.std.specs.Int.{int_min, int_max}
use Rattle.keys.specs.declared.range.Range.{Range}
use Rattle.keyspace.specs.declared.txn.Txn.{Txn}
use Rattle.keyspace.specs.declared.batch.Batch.{Batch}
use Rattle.keyspace.specs.storage.Fields.{range_fields}
use Rattle.keyspace.specs.storage.BatchRanges.{ranges_in}
use Rattle.wire.specs.Spelling.{is_single_key}
use Rattle.batches_tasks.specs.declared.spread.Spread.{Spread}
use Rattle.batches_tasks.specs.declared.stats.TxnCounts.{TxnCounts}
use Rattle.batches_tasks.specs.declared.stats.Stats.{Stats}

-- the least and the greatest number
abbrev pub ends_of : List ℕ → Option (ℕ × ℕ)
ends_of [] = None
ends_of (n ∷ ns) = Some (fold min n ns, fold max n ns)

abbrev pub spread_of : List ℕ → Spread
spread_of ns = record { count = length ns; total = sum ns; ends = ends_of ns }

-- the keys that a range is written by: a single key by that key, and any other by its two ends
abbrev pub keys_of_range : Range → List (List ℕ)
keys_of_range range =
    if is_single_key (range_fields range) then range.begin ∷ [] else range.begin ∷ range.end ∷ []

-- the keys of the ranges of a batch, read and write ranges
abbrev pub keys_in : Batch → List (List ℕ)
keys_in b = flat_map keys_of_range (ranges_in b.txns)

-- how many transactions request a report, and how many ranges each has
abbrev pub txn_counts_of : List Txn → TxnCounts
txn_counts_of ts = record {
  marked = count_by (λ t. t.marked) ts;
  reads = spread_of (map (λ t. length t.reads) ts);
  writes = spread_of (map (λ t. length t.writes) ts);
}

-- the least and the greatest version
abbrev pub versions_of : List ℤ → Option (ℤ × ℤ)
versions_of [] = None
versions_of (v ∷ vs) = Some (fold int_min v vs, fold int_max v vs)

-- The batches have frames of this many bytes.
abbrev pub stats_of : ℕ → List Batch → Stats
stats_of bytes batches = record {
  bytes = bytes;
  versions = versions_of (map (λ b. b.version) batches);
  txns = spread_of (map (λ b. length b.txns) batches);
  of_txns = txn_counts_of (flat_map (λ b. b.txns) batches);
  keys = spread_of (map length (flat_map keys_in batches));
}
