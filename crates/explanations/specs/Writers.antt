-- How the transactions of a batch that wrote a key are found, by its hash. This project's own.
use Rattle.std.specs.Prelude.{◌≡◌, ℕ, ◌<◌, ◌≤◌, false, List, ◌++◌, length, All, Contains, Option, None, Some, slice_get}
use Rattle.std.specs.declared.cmp.Ordering.{Ordering}
use Rattle.std.specs.Ordering.{nat_cmp, ordering_then}
use Rattle.std.specs.List.Sorted.{IsSorted}
use Rattle.keys.specs.Hash.{hash_of}
use Rattle.keys.specs.Range.{IsSingle, ranges_meet}
use Rattle.keys.specs.declared.range.Range.{Range}
use Rattle.keyspace.specs.Writes.{counted_ranges}
use Rattle.keyspace.specs.declared.txn.Txn.{Txn}
use Rattle.keyspace.specs.declared.reply.Entry.{Entry}
use Rattle.explanations.specs.declared.writer_index.Writer.{Writer}
use Rattle.explanations.specs.declared.writer_index.WriterIndex.{WriterIndex}

-- No committed transaction from one index on and below another wrote a range that overlaps this one.
abbrev pub NoneWrote : List Txn → List Entry → Range → ℕ → ℕ → Type 0
NoneWrote ts es range from to = (j : ℕ) (t : Txn) (e : Entry) → from ≤ j → j < to → slice_get ts j ≡ Some t → slice_get es j ≡ Some e
    → All (λ other. ranges_meet range other ≡ false) (counted_ranges e.verdict t.writes)

-- the next transaction, from this index on, that may have written a range that overlaps this one; none if no other did
abbrev pub IsNextWriter : List Txn → List Entry → Range → ℕ → Option ℕ → Type 0
IsNextWriter ts es range from None = NoneWrote ts es range from (length ts)
IsNextWriter ts es range from (Some n) = (from ≤ n) × (n < length ts) × NoneWrote ts es range from n

-- by hash, and then by transaction
abbrev pub writer_cmp : Writer → Writer → Ordering
writer_cmp a b = ordering_then (nat_cmp a.hash b.hash) (nat_cmp a.txn b.txn)

-- the range is a single key, and the transaction at index j is among the writers of keys with its hash
abbrev pub IsWrittenBy : List Writer → ℕ → Range → Type 0
IsWrittenBy writers j range = IsSingle range × Contains writers (record { hash = hash_of range.begin; txn = j })

-- each committed transaction below index n is among these writers, with each range that it wrote
abbrev pub HasWritersTo : List Writer → ℕ → List Txn → List Entry → Type 0
HasWritersTo writers n ts es = (j : ℕ) (t : Txn) (e : Entry) → j < n → slice_get ts j ≡ Some t → slice_get es j ≡ Some e
    → All (IsWrittenBy writers j) (counted_ranges e.verdict t.writes)

-- the index of a batch: its writers in order, and all of them unless some range isn't a single key
pub record IsIndexOf (index : WriterIndex) (ts : List Txn) (es : List Entry) : Type 0 where
  pub sorted : IsSorted writer_cmp index.writers.items
  pub within : All (λ w. w.txn < length ts) index.writers.items
  pub complete : index.has_ranges ≡ false → HasWritersTo index.writers.items (length ts) ts es

-- the transaction at index j, which wrote these ranges, was added
pub record AddsWrites (old new : WriterIndex) (j : ℕ) (ranges : List Range) : Type 0 where
  pub added : List Writer
  pub writers : new.writers.items ≡ old.writers.items ++ added
  pub own : All (λ w. w.txn ≡ j) added
  pub singles : new.has_ranges ≡ false → (old.has_ranges ≡ false) × All (IsWrittenBy added j) ranges
