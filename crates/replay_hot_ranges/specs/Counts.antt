-- How many transactions conflict because of a range. This project's own.
use Rattle.std.specs.Prelude.{ℕ, Bool, ◌&&◌, List, count_by}
use Rattle.std.specs.List.{list_any}
use Rattle.std.specs.Str.{bytes_eq}
use Rattle.keys.specs.declared.range.Range.{Range}
use Rattle.keyspace.specs.Processed.{Processed}
use Rattle.replay_hot_ranges.specs.Conflicts.{InConflict, rejected_txns}

-- a range by its begin and its end
abbrev pub Ends : Type 0
Ends = List ℕ × List ℕ

abbrev pub has_ends : Ends → Range → Bool
has_ends ends range = bytes_eq ends.0 range.begin && bytes_eq ends.1 range.end

-- which of the two ranges of a conflict is counted
abbrev pub Side : Type 0
Side = InConflict → Range

abbrev pub read_side : Side
read_side conflict = conflict.read

abbrev pub written_side : Side
written_side conflict = conflict.written

-- the range is that of one of the conflicts
abbrev pub is_about : Side → Ends → List InConflict → Bool
is_about side ends conflicts = list_any (λ conflict. has_ends ends (side conflict)) conflicts

-- How many of the transactions have the range in their conflicts. None counts twice.
abbrev pub count_of : Side → List (List InConflict) → Ends → ℕ
count_of side txns ends = count_by (is_about side ends) txns

-- how many transactions were rejected with this read range in conflict
abbrev pub read_count : List Processed → Ends → ℕ
read_count ps ends = count_of read_side (rejected_txns ps) ends

-- how many were rejected with a read range whose newest conflicting write wrote this range
abbrev pub written_count : List Processed → Ends → ℕ
written_count ps ends = count_of written_side (rejected_txns ps) ends
