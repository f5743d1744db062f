-- The ranges that were in conflict most. This project's own.
use Rattle.std.specs.Prelude.{◌≡◌, ℕ, ◌<◌, ◌≤◌, List, length, map, take, slice_index_or, string_bytes}
use Rattle.std.specs.Prelude.{IsPermutation}
use Rattle.batches_report.specs.declared.heat.Heat.{Heat}
use Rattle.batches_report.specs.declared.top.Hot.{Hot}

-- the names and the counts of all ranges
abbrev pub ranges_in : Heat → List (List ℕ × ℕ)
ranges_in heat = map (λ e. (string_bytes e.0, e.1)) heat.counts.entries

abbrev pub range_of : Hot → List ℕ × ℕ
range_of hot = (string_bytes hot.name, hot.count)

-- no range comes after one with a lower count
abbrev pub Fall : List Hot → Type 0
Fall hot = (i j : ℕ) (d : Hot) → i ≤ j → j < length hot → (slice_index_or hot j d).count ≤ (slice_index_or hot i d).count

-- These are the first ranges, at most this many, when all are in the order of their counts, the greatest first.
pub record AreHottest (most : ℕ) (heat : Heat) (hot : List Hot) : Type 0 where
  pub all : List Hot
  pub same : IsPermutation (ranges_in heat) (map range_of all)
  pub fall : Fall all
  pub first : hot ≡ take most all
