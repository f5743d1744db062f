-- What a filter says beside a step map, and who is asked instead if it says nothing. This project's own.
use Rattle.std.specs.Prelude.{◌≡◌, ℕ, ℤ, ◌+◌, ◌≤◌, ◌≤ℤ◌, ◌<ℤ◌, if◌then◌else◌, Bool, true, false, IsTrue, List, [], ◌∷◌, length, take, drop, Some, slice_get}
use Rattle.std.specs.List.{AllZip}
use Rattle.stepmap.specs.Filter.{FilterState, bound}
use Rattle.keys.specs.Key.{IsBytes}
use Rattle.keys.specs.Range.{IsEmpty, IsSingle}
use Rattle.keys.specs.declared.range.Range.{Range}
use Rattle.stepmap.specs.Boundary.{value_at}
use Rattle.stepmap.specs.Covers.{IsAbove}
use Rattle.stepmap.specs.StepMap.{Steps}

-- if the function is above a number at or above the edge, so is the bound of the key
abbrev pub BoundsSteps : FilterState → Steps → Type 0
BoundsSteps f m =
    (key : List ℕ) → IsBytes key → (s : ℤ) → m.edge ≤ℤ s → s <ℤ value_at m.boundaries key → s <ℤ bound f key

-- a bound of the range: if this is a single key, the function isn't above any number from the bound and the edge on
abbrev pub IsBound : Steps → Range → ℤ → Type 0
IsBound m range bound =
    IsSingle range → (s : ℤ) → m.edge ≤ℤ s → bound ≤ℤ s → ¬ IsAbove m range s

-- those of the queries that are marked, in order
abbrev pub left_of : List (Range × ℤ) → List Bool → List (Range × ℤ)
left_of [] marks = []
left_of (q ∷ queries) [] = []
left_of (q ∷ queries) (mark ∷ marks) = if mark then q ∷ left_of queries marks else left_of queries marks

-- the answers instead of the marks, in order
abbrev pub with_answers : List Bool → List Bool → List Bool
with_answers [] answered = []
with_answers (false ∷ marks) answered = false ∷ with_answers marks answered
with_answers (true ∷ marks) [] = true ∷ with_answers marks []
with_answers (true ∷ marks) (above ∷ answered) = above ∷ with_answers marks answered

-- The queries from this index on are marked, as many as there are marks. The function isn't above the version of one that
-- isn't. The others are at these places, and their ranges aren't empty.
pub record AreMarked (m : Steps) (queries : List (Range × ℤ)) (from : ℕ) (marks : List Bool) (places : List ℕ) : Type 0 where
  pub within : from + length marks ≤ length queries
  pub others : AllZip (λ q mark. ¬ IsTrue mark → ¬ IsAbove m q.0 q.1) (take (length marks) (drop from queries)) marks
  pub left : AllZip (λ q place. (slice_get queries place ≡ Some q) × (¬ IsEmpty q.0))
      (left_of (take (length marks) (drop from queries)) marks) places
