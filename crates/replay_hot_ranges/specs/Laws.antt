-- What the list of the greatest counts promises, in three laws.
use Rattle.std.specs.Prelude.{◌≢◌, ℕ, ◌<◌, ◌≤◌, List, All, Contains, length, map, slice_index_or}
use Rattle.replay_hot_ranges.specs.Counts.{Ends}
use Rattle.replay_hot_ranges.specs.Top.{IsTop, ends_of}
use Rattle.replay_hot_ranges.specs.declared.hot_range.HotRange.{HotRange}

-- A range that isn't listed has at most the count of each that is.
abbrev pub OthersAreAtMost : Type 0
OthersAreAtMost = (count : Ends → ℕ) (most : ℕ) (hot : List HotRange) → IsTop count most hot
    → (ends : Ends) → ¬ Contains (map ends_of hot) ends → All (λ h. count ends ≤ h.conflicts) hot

-- No range is listed twice.
abbrev pub NoneIsTwice : Type 0
NoneIsTwice = (count : Ends → ℕ) (most : ℕ) (hot : List HotRange) → IsTop count most hot
    → (i j : ℕ) (d : HotRange) → i < j → j < length hot → ends_of (slice_index_or hot i d) ≢ ends_of (slice_index_or hot j d)

-- If fewer are listed than may be, each range with a count is listed.
abbrev pub AllIfFewer : Type 0
AllIfFewer = (count : Ends → ℕ) (most : ℕ) (hot : List HotRange) → IsTop count most hot
    → length hot < most → (ends : Ends) → 0 < count ends → Contains (map ends_of hot) ends
