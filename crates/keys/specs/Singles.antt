-- The ranks of a batch that contains only single keys: only those count that may equal a written one. This project's own.
use Rattle.std.specs.Prelude.{◌≡◌, ◌≢◌, ◌⊎◌, ℕ, ◌*◌, ◌/◌, ◌^◌, Bool, true, false, if◌then◌else◌, List, [], ◌∷◌, ◌++◌, length, map, slice_index_or, Option, Some, slice_get, All, Contains}
use Rattle.keys.specs.Hash.{hash_of}
use Rattle.keys.specs.Range.{IsEmpty, IsSingle, Meets}
use Rattle.keys.specs.GapRuns.{runs_of, AreChosenInOrder, AreRising, HaveBegin, GapRunsView}
use Rattle.keys.specs.Sorting.{begin_at, begins_of, indices_of}
use Rattle.keys.specs.Numbering.{IsNumbered}
use Rattle.keys.specs.declared.range.Range.{Range}
use Rattle.keys.specs.declared.gap_runs.begin_sort.HeadedIndex.{HeadedIndex}

-- the mark at the index is set
abbrev pub is_marked : List Bool → ℕ → Bool
is_marked marks index = slice_index_or marks index false

-- the ranges whose mark is set, in order
abbrev pub marked_ranges : List Bool → List Range → List Range
marked_ranges [] ranges = []
marked_ranges (mark ∷ marks) [] = []
marked_ranges (mark ∷ marks) (range ∷ ranges) = if mark then range ∷ marked_ranges marks ranges else marked_ranges marks ranges

-- the range meets none of the others
abbrev pub MeetsNone : List Range → Range → Type 0
MeetsNone others range = All (λ other. ¬ Meets range other) others

-- the range is ranked as itself, or, if it meets none of the written ones, as an empty one
abbrev pub IsRankedAs : List Range → Range → Range → Type 0
IsRankedAs written range other = (other ≡ range) ⊎ (IsEmpty other × MeetsNone written range)

-- The ranks determine which of the ranges meet the written ones. Each range is ranked as itself or, if it meets no
-- written range, as an empty one, whose run holds no gap. A written range is ranked as itself. The runs are among keys
-- that have the begins of all these.
pub record AreRankedFor (written ranges : List Range) (ranks : GapRunsView) : Type 0 where
  pub ranked_as : Range → Range
  pub keys : List (List ℕ)
  pub rising : AreRising keys
  pub count : ranks.begin_count ≡ length keys
  pub have_begins : All (HaveBegin keys) (map ranked_as ranges)
  pub are_runs : ranks.runs ≡ runs_of keys (map ranked_as ranges)
  pub each : All (λ range. IsRankedAs written range (ranked_as range)) ranges
  pub itself : All (λ range. ranked_as range ≡ range) written

-- The indices are those of ranges that aren't empty, each once, in the order of the begins: of all that are chosen, at least.
pub record HaveInOrder (chosen : ℕ → Bool) (ranges : List Range) (order : List ℕ) : Type 0 where
  pub listed : ℕ → Bool
  pub in_order : AreChosenInOrder listed ranges order
  pub all : (index : ℕ) → chosen index ≡ true → listed index ≡ true

-- the cell into which a hash falls, of this number of cells
abbrev pub cell_of : ℕ → ℕ → ℕ
cell_of count hash = hash * count / 2 ^ 32

-- the hash falls into a marked cell
abbrev pub is_in_cells : List Bool → ℕ → Bool
is_in_cells cells hash = slice_index_or cells (cell_of (length cells) hash) false

-- so does the hash of the key with which the range at the index begins
abbrev pub counts_at : List Bool → List Range → ℕ → Bool
counts_at cells ranges index = is_in_cells cells (hash_of (begin_at ranges index))

-- the hashes of the marked ranges fall into marked cells
abbrev pub AreInCells : List Bool → List Bool → List (Option ℕ) → Type 0
AreInCells cells marks hashes =
    (index hash : ℕ) → is_marked marks index ≡ true → slice_get hashes index ≡ Some (Some hash)
    → is_in_cells cells hash ≡ true

-- the range at the index holds one key
abbrev pub IsSingleAt : List Range → ℕ → Type 0
IsSingleAt ranges index = (range : Range) × (slice_get ranges index ≡ Some range) × IsSingle range

-- ranges have the same head if they have the same begin, or if the one begins right after the other's begin
abbrev pub HaveSameHeadsNear : List Range → List HeadedIndex → Type 0
HaveSameHeadsNear ranges headed = (a b : HeadedIndex) → Contains headed a → Contains headed b
    → (begin_at ranges a.index ≡ begin_at ranges b.index) ⊎ (begin_at ranges a.index ++ 0 ∷ [] ≡ begin_at ranges b.index)
    → a.head ≡ b.head

-- how far the number of the next key is from that of a key after which this end comes: 0 if the two are equal, 1 if they touch,
-- and else 2
abbrev pub IsStep : List ℕ → List ℕ → List ℕ → ℕ → Type 0
IsStep key end next step =
    ((step ≡ 0) × (key ≡ next))
    ⊎ (((step ≡ 1) × (key ≢ next) × (end ≡ next)) ⊎ ((step ≡ 2) × (key ≢ next) × (end ≢ next)))

-- The keys, of this number, have the begins of the ranges listed, and the runs of these are numbered. Further keys may lie between.
pub record AreNumberedAmong (ranges : List Range) (headed : List HeadedIndex) (keys : List (List ℕ)) (total : ℕ)
    (runs : List (ℕ × ℕ)) : Type 0 where
  pub rising : AreRising keys
  pub has_begins : (key : List ℕ) → Contains (begins_of ranges headed) key → Contains keys key
  pub count : total ≡ length keys
  pub numbers : All (IsNumbered ranges keys runs) (indices_of headed)
