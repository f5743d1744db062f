-- The runs of ranges while they are set: by the numbers of their begins first, and then by their ends. This project's own.
use Rattle.std.specs.Prelude.{◌≡◌, ◌≢◌, ◌↔◌, ◌⊎◌, ℕ, ◌+◌, ◌-◌, ◌^◌, ◌<◌, ◌==◌, nat_lt, Bool, true, if◌then◌else◌, List, [], length, take, drop, Option, Some, None, slice_get, slice_index_or, All, Contains}
use Rattle.keys.specs.Head.{head_of}
use Rattle.keys.specs.Key.{is_before, IsBefore, IsAtMost}
use Rattle.keys.specs.Range.{is_filled}
use Rattle.keys.specs.GapRuns.{rank, AreRising}
use Rattle.keys.specs.Sorting.{begin_at, begins_of, indices_of}
use Rattle.keys.specs.declared.range.Range.{Range}
use Rattle.keys.specs.declared.gap_runs.begin_sort.HeadedIndex.{HeadedIndex}

-- the end of the range, or the empty key where there is none
abbrev pub end_of : Option Range → List ℕ
end_of (Some range) = range.end
end_of None = []

-- the end of the range at the index, or the empty key where there is none
abbrev pub end_at : List Range → ℕ → List ℕ
end_at ranges index = end_of (slice_get ranges index)

-- there is a range at the index, and it isn't empty
abbrev pub IsFilledAt : List Range → ℕ → Type 0
IsFilledAt ranges index = (range : Range) × (slice_get ranges index ≡ Some range) × (is_filled range ≡ true)

-- the run at the index, or one that holds no gap where there is none
abbrev pub run_at : List (ℕ × ℕ) → ℕ → ℕ × ℕ
run_at runs index = slice_index_or runs index (0, 0)

-- the keys are the begins of the ranges listed, each once and in order
pub record AreEachOnce (ranges : List Range) (headed : List HeadedIndex) (keys : List (List ℕ)) : Type 0 where
  pub rising : AreRising keys
  pub same : (key : List ℕ) → Contains (begins_of ranges headed) key ↔ Contains keys key

-- the run at the index is the number of its range's begin and the one after it
abbrev pub IsNumbered : List Range → List (List ℕ) → List (ℕ × ℕ) → ℕ → Type 0
IsNumbered ranges keys runs index =
    run_at runs index ≡ (rank keys (begin_at ranges index), rank keys (begin_at ranges index) + 1)

-- the keys are the begins of the listed ranges, of this number, and their runs are numbered
pub record AreNumbered (ranges : List Range) (headed : List HeadedIndex) (keys : List (List ℕ)) (begins : ℕ)
    (runs : List (ℕ × ℕ)) : Type 0 where
  pub each_once : AreEachOnce ranges headed keys
  pub count : begins ≡ length keys
  pub numbers : All (IsNumbered ranges keys runs) (indices_of headed)

-- the run at the index is the one of its range
abbrev pub HasRun : List Range → List (List ℕ) → List (ℕ × ℕ) → ℕ → Type 0
HasRun ranges keys runs index =
    run_at runs index ≡ (rank keys (begin_at ranges index), rank keys (end_at ranges index))

-- the runs of the ranges that aren't listed are the same
abbrev pub OthersStay : List HeadedIndex → List (ℕ × ℕ) → List (ℕ × ℕ) → Type 0
OthersStay headed before after =
    (index : ℕ) → ¬ Contains (indices_of headed) index → run_at after index ≡ run_at before index

-- the number is the head of the end after the prefix, or the greatest one if the end doesn't begin with the prefix
abbrev pub IsEndHead : List ℕ → List ℕ → ℕ → Type 0
IsEndHead prefix end head =
    ((take (length prefix) end ≡ prefix) × (head ≡ head_of (drop (length prefix) end)))
    ⊎ ((take (length prefix) end ≢ prefix) × (head ≡ 2 ^ 64 - 1))

-- the head of the range, if it isn't the number, determines whether the range begins below the end
pub record HeadsDetermine (ranges : List Range) (end : List ℕ) (head : ℕ) (headed : HeadedIndex) : Type 0 where
  pub less : headed.head < head → IsBefore (begin_at ranges headed.index) end
  pub greater : head < headed.head → IsAtMost end (begin_at ranges headed.index)

-- whether the range begins below the end: by its head, or by its begin if the head is the number
abbrev pub begins_below_end : List Range → List ℕ → ℕ → HeadedIndex → Bool
begins_below_end ranges end head headed =
    if headed.head == head then is_before (begin_at ranges headed.index) end else nat_lt headed.head head
