-- The order of ranges by their begins, the numbers of these, and the runs of gaps that ranges cover. This project's own.
use Rattle.std.specs.Prelude.{◌≡◌, ℕ, ◌+◌, Bool, List, [], ◌∷◌, length, map, filter, if◌then◌else◌, count_by, Some, slice_get, All, AllPairs, Any, Contains}
use Rattle.std.specs.List.Sorted.{IsPermutation}
use Rattle.keys.specs.Key.{is_before, IsBefore, IsAtMost}
use Rattle.keys.specs.Range.{IsEmpty, is_filled}
use Rattle.keys.specs.declared.range.Range.{Range}

-- each key comes before the ones after it
abbrev pub AreRising : List (List ℕ) → Type 0
AreRising keys = AllPairs IsBefore keys

-- how many of the keys come before the key
abbrev pub rank : List (List ℕ) → List ℕ → ℕ
rank keys key = count_by (λ k. is_before k key) keys

-- The run of gaps that the range covers: from the rank of its begin on, below the rank of its end. Gap i begins at
-- the key at index i.
abbrev pub run : List (List ℕ) → Range → ℕ × ℕ
run keys range = (rank keys range.begin, rank keys range.end)

-- the run of the range, or one that holds no gap if the range is empty
abbrev pub run_or_none : List (List ℕ) → Range → ℕ × ℕ
run_or_none keys range = if is_filled range then run keys range else (0, 0)

-- those of ranges
abbrev pub runs_of : List (List ℕ) → List Range → List (ℕ × ℕ)
runs_of keys ranges = map (run_or_none keys) ranges

-- the keys have the begin of the range, unless it is empty
abbrev pub HaveBegin : List (List ℕ) → Range → Type 0
HaveBegin keys range = ¬ IsEmpty range → Contains keys range.begin

-- the key is the begin of some range that isn't empty
abbrev pub IsBeginIn : List Range → List ℕ → Type 0
IsBeginIn ranges key = Any (λ r. ¬ IsEmpty r × (r.begin ≡ key)) ranges

-- the keys are the begins of the ranges that aren't empty, each once and in order
pub record AreBegins (ranges : List Range) (keys : List (List ℕ)) : Type 0 where
  pub rising : AreRising keys
  pub all : All (HaveBegin keys) ranges
  pub only : All (IsBeginIn ranges) keys

-- the range at the index doesn't begin after the one at the other
abbrev pub BeginsFirst : List Range → ℕ → ℕ → Type 0
BeginsFirst ranges i j = (a b : Range) → slice_get ranges i ≡ Some a → slice_get ranges j ≡ Some b → IsAtMost a.begin b.begin

-- the indices, from the first on, of the ranges that aren't empty
abbrev pub filled_from : ℕ → List Range → List ℕ
filled_from first [] = []
filled_from first (range ∷ ranges) =
    if is_filled range then first ∷ filled_from (first + 1) ranges else filled_from (first + 1) ranges

-- the indices are those of the ranges that aren't empty, each once, in the order of the begins
pub record AreInOrder (ranges : List Range) (order : List ℕ) : Type 0 where
  pub in_order : AllPairs (BeginsFirst ranges) order
  pub all : IsPermutation (filled_from 0 ranges) order

-- The indices are those of the ranges that aren't empty and are chosen, each once, in the order of the begins.
pub record AreChosenInOrder (chosen : ℕ → Bool) (ranges : List Range) (order : List ℕ) : Type 0 where
  pub in_order : AllPairs (BeginsFirst ranges) order
  pub all : IsPermutation (filter chosen (filled_from 0 ranges)) order

-- what is seen of ranks
pub record GapRunsView : Type 0 where
  pub runs : List (ℕ × ℕ)
  -- how many begins there are
  pub begin_count : ℕ

-- The ranks are those of the ranges: equal begins have one number, and each range covers the begins that lie in it.
pub record AreRanked (ranges : List Range) (ranks : GapRunsView) : Type 0 where
  pub keys : List (List ℕ)
  pub are_begins : AreBegins ranges keys
  pub count : ranks.begin_count ≡ length keys
  pub are_runs : ranks.runs ≡ runs_of keys ranges
