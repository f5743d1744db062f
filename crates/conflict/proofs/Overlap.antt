-- A range overlaps one of a list exactly if their runs have a gap in common.
use Rattle.std.proofs.Common.{ℕ, List, subst}
use Rattle.std.specs.Prelude.{IsTrue, All, Any}
use Rattle.keys.specs.declared.range.Range.{Range}
use Rattle.keys.specs.Range.{Meets, ranges_meet}
use Rattle.keys.specs.GapRuns.{HaveBegin, run}
use Rattle.keys.specs.Gaps.{HasGap}
use Rattle.keys.specs.Laws.{RunsDetermineMeeting}
use Rattle.keys.proofs.callers.Meeting.{meets_from_test, test_from_meets}
use Rattle.keyspace.specs.Judge.{meets_earlier}
use Rattle.keyspace.proofs.callers.Judging.{any_from_test, test_from_any}
use Rattle.conflict.specs.Written.{RunsDetermineOverlap}

module _ (meeting : RunsDetermineMeeting) where
  abbrev GapOfSome : List (List ℕ) → Range → List Range → Type 0
  GapOfSome keys a ranges =
      (gap : ℕ) × HasGap (run keys a) gap × Any (λ range. HasGap (run keys range) gap) ranges

  gap_from_overlap : (keys : List (List ℕ)) (a : Range) (ranges : List Range) → HaveBegin keys a
      → All (HaveBegin keys) ranges → IsTrue (meets_earlier ranges a) → GapOfSome keys a ranges
  gap_from_overlap keys a ranges ha all h =
      let m = any_from_test (Meets a) (ranges_meet a) ranges (meets_from_test a) h in
      let hb : HaveBegin keys m.1 = subst (HaveBegin keys) m.3 (all m.0 m.1 m.2) in
      let g = (meeting keys a m.1 ha hb).0 m.4 in
      (g.0, g.1, (m.0, m.1, m.2, m.3, g.2))

  overlap_from_gap : (keys : List (List ℕ)) (a : Range) (ranges : List Range) → HaveBegin keys a
      → All (HaveBegin keys) ranges → GapOfSome keys a ranges → IsTrue (meets_earlier ranges a)
  overlap_from_gap keys a ranges ha all g =
      let s = g.2 in
      let hb : HaveBegin keys s.1 = subst (HaveBegin keys) s.3 (all s.0 s.1 s.2) in
      test_from_any (Meets a) (ranges_meet a) ranges (test_from_meets a)
      (s.0, s.1, s.2, s.3, (meeting keys a s.1 ha hb).1 (g.0, g.1, s.4))

  pub runs_determine_overlap : RunsDetermineOverlap
  runs_determine_overlap keys a ranges ha all =
      (gap_from_overlap keys a ranges ha all, overlap_from_gap keys a ranges ha all)
