-- How many boundaries there can be. This project's own.
use Rattle.std.specs.Prelude.{ℕ, ℤ, ◌&&◌, int_le, List, count_by}
use Rattle.keys.specs.Range.{is_filled}
use Rattle.keyspace.specs.Writes.{Write}
use Rattle.keys.specs.declared.range.Range.{Range}

-- how many of the ranges aren't empty
abbrev pub filled_count : List Range → ℕ
filled_count ranges = count_by is_filled ranges

-- how many of the writes are of a range that isn't empty, at a version at or above the edge
abbrev pub live_count : ℤ → List Write → ℕ
live_count edge ws = count_by (λ w. is_filled w.range && int_le edge w.version) ws
