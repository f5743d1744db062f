-- The gaps that written ranges cover, and what they say about reads. This project's own.
use Rattle.std.specs.Prelude.{◌≡◌, ℕ, ◌≤◌, ◌↔◌, Bool, List, All, Any, IsTrue}
use Rattle.keys.specs.declared.range.Range.{Range}
use Rattle.keys.specs.GapRuns.{HaveBegin, run, runs_of}
use Rattle.keys.specs.Gaps.{HasGap}
use Rattle.keyspace.specs.Judge.{meets_earlier}
use Rattle.conflict.specs.Gaps.{IsMarked}

-- a gap is marked exactly if the run of one of the written ranges has it
abbrev pub AreWrittenGaps : List (List ℕ) → List Bool → List Range → Type 0
AreWrittenGaps keys marks written =
    (gap : ℕ) → IsMarked marks gap ↔ Any (λ w. HasGap (run keys w) gap) written

-- the runs end at the count at the latest, and none is backwards
abbrev pub AreRunsWithin : ℕ → List (ℕ × ℕ) → Type 0
AreRunsWithin count runs = All (λ run. (run.0 ≤ run.1) × (run.1 ≤ count)) runs

-- the keys have the begins of the ranges, and the runs are those of the ranges among the keys
pub record AreRunsOf (keys : List (List ℕ)) (runs : List (ℕ × ℕ)) (ranges : List Range) : Type 0 where
  pub have_begins : All (HaveBegin keys) ranges
  pub are_runs : runs ≡ runs_of keys ranges

-- Among keys that include the begins of the ranges, a range overlaps one of a list exactly if their runs have a gap in
-- common.
abbrev pub RunsDetermineOverlap : Type 0
RunsDetermineOverlap =
    (keys : List (List ℕ)) (a : Range) (ranges : List Range) → HaveBegin keys a →
    All (HaveBegin keys) ranges →
    IsTrue (meets_earlier ranges a) ↔ ((gap : ℕ) × HasGap (run keys a) gap
    × Any (λ range. HasGap (run keys range) gap) ranges)
