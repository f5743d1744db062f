-- What the marked gaps show about the ranges that are written.
use Rattle.std.proofs.Common.{
  ◌≡◌,
  ◌↔◌,
  ◌⊎◌,
  ℕ,
  ◌+◌,
  ◌<◌,
  Bool,
  List,
  [],
  ◌∷◌,
  ◌++◌,
  length,
  get_or,
  take,
  append_assoc,
  append-nil,
  sym,
  ap,
  ◌∙◌,
  subst,
  inl,
  inr,
}
use Rattle.std.specs.Prelude.{IsTrue, All}
use Rattle.std.proofs.lemmas.Bool.Decides.{same_from_decides}
use Rattle.std.proofs.lemmas.List.{take_more}
use Rattle.std.proofs.lemmas.List.Quantifiers.{Any-push}
use Rattle.keys.specs.declared.range.Range.{Range}
use Rattle.keyspace.specs.Judge.{meets_earlier}
use Rattle.keys.proofs.callers.SomeElement.{Any-longer, Any-push_cases}
use Rattle.keys.specs.GapRuns.{HaveBegin, run, run_or_none}
use Rattle.keys.specs.Gaps.{HasGap}
use Rattle.conflict.specs.Gaps.{IsInRun, IsMarked, SomeMarked}
use Rattle.conflict.specs.Written.{AreWrittenGaps, RunsDetermineOverlap, AreRunsOf}
use Rattle.conflict.proofs.RunsOfRanges.{same_gaps, determined_at}

module _ (keys : List (List ℕ)) where
  -- no more is written by no ranges
  pub no_more_written : (marks : List Bool) (written more : List Range) → more ≡ []
      → AreWrittenGaps keys marks written → AreWrittenGaps keys marks (written ++ more)
  no_more_written marks written more none determined =
      subst (AreWrittenGaps keys marks) (sym (append-nil written) ∙ ap (λ rs. written ++ rs) (sym none)) determined

  -- the run of one more range is marked
  one_more_written : (old new : List Bool) (written : List Range) (range : Range)
      → ((gap : ℕ) → IsMarked new gap ↔ (IsMarked old gap ⊎ HasGap (run keys range) gap))
      → AreWrittenGaps keys old written → AreWrittenGaps keys new (written ++ range ∷ [])
  one_more_written old new written range marked determined gap =
      let P : Range → Type 0 = λ w. HasGap (run keys w) gap in (
        λ m. elim ((marked gap).0 m) [
          | inl before ↦ Any-longer P written range ((determined gap).0 before)
          | inr here ↦ Any-push P written range here
        ],
        λ a. (marked gap).1 (elim (Any-push_cases P written range a) [
          | inl before ↦ inl ((determined gap).1 before)
          | inr here ↦ inr here
        ]),
      )

  -- the run at the next index is marked
  pub next_written : (old new : List Bool) (written ranges : List Range) (runs : List (ℕ × ℕ)) (i : ℕ) (r d : ℕ × ℕ)
      → i < length runs → r ≡ get_or runs i d → AreRunsOf keys runs ranges
      → ((gap : ℕ) → IsMarked new gap ↔ (IsMarked old gap ⊎ IsInRun r.0 r.1 gap))
      → AreWrittenGaps keys old (written ++ take i ranges)
      → AreWrittenGaps keys new (written ++ take (i + 1) ranges)
  next_written old new written ranges runs i r d inside is determine marked determined =
      let at = determined_at keys runs ranges i r d inside is determine in
      let range = at.0 in
      let same : (gap : ℕ) → HasGap r gap ↔ HasGap (run keys range) gap =
      subst (λ (s : ℕ × ℕ). (gap : ℕ) → HasGap s gap ↔ HasGap (run keys range) gap) (sym at.3)
      (same_gaps keys range) in
      let more : (gap : ℕ) → IsMarked new gap ↔ (IsMarked old gap ⊎ HasGap (run keys range) gap) =
      λ gap. (
        λ m. elim ((marked gap).0 m) [ inl before ↦ inl before | inr here ↦ inr ((same gap).0 here) ],
        λ o. (marked gap).1 (elim o [ inl before ↦ inl before | inr here ↦ inr ((same gap).1 here) ]),
      ) in
      let longer : (written ++ take i ranges) ++ range ∷ [] ≡ written ++ take (i + 1) ranges =
      append_assoc written (take i ranges) (range ∷ [])
      ∙ ap (λ rs. written ++ rs)
      (ap (λ w. take i ranges ++ w ∷ []) at.2 ∙ sym (take_more ranges i range at.1)) in
      subst (AreWrittenGaps keys new) longer
      (one_more_written old new (written ++ take i ranges) range more determined)

  -- whether a gap in a range's run is marked tells whether it overlaps a written range
  pub any_marked_is_met : RunsDetermineOverlap → (marks : List Bool) (written : List Range) (range : Range) (b : Bool)
      → HaveBegin keys range
      → IsTrue b ↔ SomeMarked marks (run_or_none keys range).0 (run_or_none keys range).1
      → AreWrittenGaps keys marks written → All (HaveBegin keys) written → b ≡ meets_earlier written range
  any_marked_is_met determines marks written range b own says determined have =
      let same = same_gaps keys range in
      same_from_decides b (meets_earlier written range) (
        λ t. let m = says.0 t in (m.0, (same m.0).0 m.1, (determined m.0).0 m.2),
        λ g. says.1 (g.0, (same g.0).1 g.1, (determined g.0).1 g.2),
      ) (determines keys range written own have)
