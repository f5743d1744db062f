-- Which writes explain that a read range is in conflict. Source: `IsHit` and `MeetsEarlier` of `keyspace`, which say the same without an
-- origin.
use Rattle.std.specs.Prelude.{ℕ, ℤ, Bool, ◌&&◌, if◌then◌else◌, nat_lt, int_lt, List, [], ◌∷◌, filter, Option, Some, None, slice_get}
use Rattle.std.specs.Ordering.{int_eq}
use Rattle.keys.specs.declared.range.Range.{Range}
use Rattle.keys.specs.Range.{ranges_meet}
use Rattle.keyspace.specs.declared.txn.Txn.{Txn}
use Rattle.keyspace.specs.declared.batch.Batch.{Batch}
use Rattle.keyspace.specs.Processed.{Processed}
use Rattle.explanations.specs.Written.{Written, all_written}

-- The read range belongs to the transaction at index j of the batch of this version. The write overlaps it, and an earlier transaction of
-- that batch wrote it, or an earlier batch did, above the snapshot.
abbrev pub explains : ℤ → ℕ → ℤ → Range → Written → Bool
explains version j snapshot range w =
    (if int_eq w.version version then nat_lt w.txn j else int_lt snapshot w.version) && ranges_meet range w.range

-- the writes that explain it, oldest first; none if there is no such range
abbrev pub explaining_range : List Written → ℤ → ℕ → ℤ → Option Range → List Written
explaining_range ws version j snapshot None = []
explaining_range ws version j snapshot (Some range) = filter (explains version j snapshot range) ws

-- those of read range i of the transaction at index j; none if there is no such transaction
abbrev pub explaining_txn : List Written → ℤ → ℕ → Option Txn → ℕ → List Written
explaining_txn ws version j None i = []
explaining_txn ws version j (Some t) i = explaining_range ws version j t.snapshot (slice_get t.reads i)

-- those of read range i of the transaction at index j of the batch
abbrev pub explaining_writes : List Processed → Batch → ℕ → ℕ → List Written
explaining_writes ps b j i = explaining_txn (all_written ps) b.version j (slice_get b.txns j) i

-- the batch processed last
abbrev pub newest_of : List Processed → Option Batch
newest_of [] = None
newest_of (p ∷ []) = Some p.batch
newest_of (p ∷ q ∷ ps) = newest_of (q ∷ ps)

-- those of read range i of the transaction at index j of the batch processed last
abbrev pub explaining_of : List Processed → Option Batch → ℕ → ℕ → List Written
explaining_of ps None j i = []
explaining_of ps (Some b) j i = explaining_writes ps b j i

abbrev pub explaining_newest : List Processed → ℕ → ℕ → List Written
explaining_newest ps j i = explaining_of ps (newest_of ps) j i
