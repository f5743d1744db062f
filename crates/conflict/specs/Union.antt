-- The union of ranges that are written, by the ranges that it begins and ends with. This project's own.
use Rattle.std.specs.Prelude.{◌≡◌, ◌⊎◌, ℕ, Bool, true, false, List, map, All, Some, slice_get, slice_index_or}
use Rattle.std.specs.List.{AllZip}
use Rattle.keys.specs.Range.{IsEmpty}
use Rattle.keys.specs.GapRuns.{runs_of, AreChosenInOrder, IsBeginIn}
pub use Rattle.keys.specs.Singles.{marked_ranges}
use Rattle.keys.specs.declared.range.Range.{Range}
use Rattle.stepmap.specs.StepMap.{lengths}
use Rattle.stepmap.specs.Uniting.{Unites}
use Rattle.conflict.specs.declared.union.UnitedSpan.{UnitedSpan}

-- The indices are, in the order of the begins, those of ranges that aren't empty: of all that are marked as written, at least.
pub record HaveWrittenInOrder (ranges : List Range) (written : List Bool) (order : List ℕ) : Type 0 where
  pub chosen : ℕ → Bool
  pub in_order : AreChosenInOrder chosen ranges order
  pub all : (index : ℕ) → slice_index_or written index false ≡ true → chosen index ≡ true

-- Among some keys each range has its run, or one of an empty range.
pub record HaveRuns (ranges : List Range) (runs : List (ℕ × ℕ)) : Type 0 where
  pub keys : List (List ℕ)
  pub ranked_as : Range → Range
  pub are_runs : runs ≡ runs_of keys (map ranked_as ranges)
  pub each : All (λ range. (ranked_as range ≡ range) ⊎ IsEmpty (ranked_as range)) ranges

-- the range at the index begins with the key
abbrev pub BeginsAt : List Range → ℕ → List ℕ → Type 0
BeginsAt ranges index key = (range : Range) × (slice_get ranges index ≡ Some range) × (range.begin ≡ key)

-- the range at the index ends with the key
abbrev pub EndsAt : List Range → ℕ → List ℕ → Type 0
EndsAt ranges index key = (range : Range) × (slice_get ranges index ≡ Some range) × (range.end ≡ key)

-- the range begins with the one range that the span names, and ends with the other
pub record Spans (ranges : List Range) (span : UnitedSpan) (range : Range) : Type 0 where
  pub begins : BeginsAt ranges span.begin range.begin
  pub ends : EndsAt ranges span.end range.end

-- there are as many united ranges as spans, and each span is that of the range at its place
abbrev pub AreSpanned : List Range → List UnitedSpan → List Range → Type 0
AreSpanned ranges spans united = AllZip (Spans ranges) spans united

-- The spans are those of ranges that unite the written ones, and there are the lengths of their keys.
pub record IsUnion (ranges : List Range) (spans : List UnitedSpan) (each_length : List (ℕ × ℕ)) (written : List Range) : Type 0 where
  pub united : List Range
  pub spanned : AreSpanned ranges spans united
  pub unites : Unites united written
  pub ready : each_length ≡ map lengths united

-- the spans are those of ranges that unite the ones that were added, and each begins where some of these does
pub record AreUnited (ranges : List Range) (spans : List UnitedSpan) (added : List Range) : Type 0 where
  pub united : List Range
  pub spanned : AreSpanned ranges spans united
  pub unites : Unites united added
  pub begins : All (λ u. IsBeginIn added u.begin) united
