-- Sets of gaps: the list of their marks, and the words that keep them, one bit a gap.
use Rattle.std.specs.Prelude.{◌≡◌, ℕ, ◌/◌, ◌%◌, ◌<◌, ◌≤◌, ◌==◌, Bool, false, IsTrue, List, map, slice_index, slice_index_or}
use Rattle.std.specs.List.{range_with_len}
use Rattle.std.specs.Int.{bit_at}

-- the number is in the run from..to
abbrev pub IsInRun : ℕ → ℕ → ℕ → Type 0
IsInRun from to n = (from ≤ n) × (n < to)

-- the gap is marked; none at or above the count is
unfoldable pub IsMarked : List Bool → ℕ → Type 0
IsMarked marks gap = IsTrue (slice_index_or marks gap false)

-- some gap of the run from..to is marked
abbrev pub SomeMarked : List Bool → ℕ → ℕ → Type 0
SomeMarked marks from to = (gap : ℕ) × IsInRun from to gap × IsMarked marks gap

-- the words have the bit, which is bit `bit % 64` of word `bit / 64`
unfoldable pub HasBit : List ℕ → ℕ → Type 0
HasBit words bit = bit_at (slice_index words (bit / 64)) (bit % 64) ≡ 1

-- the bit is one that a mask of this word has
abbrev pub IsInWord : ℕ → ℕ → ℕ → Type 0
IsInWord word mask bit = (bit / 64 ≡ word) × (bit_at mask (bit % 64) ≡ 1)

-- the marks of the gaps below the count, of which the words have the bits
unfoldable pub marks_of : ℕ → List ℕ → List Bool
marks_of count words =
    map (λ gap. bit_at (slice_index words (gap / 64)) (gap % 64) == 1) (range_with_len 0 count)
