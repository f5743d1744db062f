-- The ranges with the greatest counts. This project's own.
use Rattle.std.specs.Prelude.{◌≡◌, ℕ, ◌<◌, ◌≤◌, ◌⊎◌, List, All, Contains, length, map}
use Rattle.std.specs.declared.cmp.Ordering.{Ordering}
use Rattle.std.specs.declared.cmp.Ordering.TheVariants.{Less}
use Rattle.std.specs.Cmp.Lexicographic.{slice_cmp}
use Rattle.std.specs.List.Sorted.{IsStrictlySortedBy}
use Rattle.std.specs.Ordering.{nat_cmp, ordering_then}
use Rattle.keyspace.specs.Processed.{Processed}
use Rattle.replay_hot_ranges.specs.Counts.{Ends, read_count, written_count}
use Rattle.replay_hot_ranges.specs.declared.hot_range.HotRange.{HotRange}
use Rattle.replay_hot_ranges.specs.declared.hot_range.Top.{Top}

-- by the begin, and then by the end
abbrev pub ends_cmp : Ends → Ends → Ordering
ends_cmp a b = ordering_then (slice_cmp nat_cmp a.0 b.0) (slice_cmp nat_cmp a.1 b.1)

abbrev pub ends_of : HotRange → Ends
ends_of hot = (hot.begin.now, hot.end.now)

-- a listed range with its count
abbrev pub row_of : HotRange → Ends × ℕ
row_of hot = (ends_of hot, hot.conflicts)

-- the greater count first, and equal counts in the order of the ranges
abbrev pub row_cmp : Ends × ℕ → Ends × ℕ → Ordering
row_cmp a b = ordering_then (nat_cmp b.1 a.1) (ends_cmp a.0 b.0)

-- These are the ranges with the greatest counts, at most this many, in order.
pub record IsTop (count : Ends → ℕ) (most : ℕ) (hot : List HotRange) : Type 0 where
  pub few : length hot ≤ most
  pub counts : All (λ h. (h.conflicts ≡ count (ends_of h)) × (0 < h.conflicts)) hot
  -- so none is listed twice
  pub order : IsStrictlySortedBy row_cmp (map row_of hot)
  -- any other range has the count 0, or comes after all of these; then as many as allowed are listed
  pub others : (ends : Ends) → Contains (map ends_of hot) ends
      ⊎ ((count ends ≡ 0) ⊎ ((length hot ≡ most) × All (λ h. row_cmp (row_of h) (ends, count ends) ≡ Less) hot))

-- these are the read ranges and the written ranges that conflict most
pub record IsTopOf (ps : List Processed) (most : ℕ) (top : Top) : Type 0 where
  pub reads : IsTop (read_count ps) most top.reads.items
  pub writes : IsTop (written_count ps) most top.writes.items
