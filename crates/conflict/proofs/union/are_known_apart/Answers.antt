use Rattle.std.proofs.Common.{◌≡◌, ◌<◌, ℕ, List, refl, ap, ◌∙◌, inl, inr, arith, ltb-true}
use Rattle.std.proofs.lemmas.Bool.{cases_Bool}
use Rattle.keys.specs.Range.{is_filled}
use Rattle.keys.specs.GapRuns.{rank, run_or_none}
use Rattle.keys.specs.declared.range.Range.{Range}
use Rattle.keys.proofs.callers.GapRuns.{before_from_rank}
use Rattle.conflict.proofs.union.are_known_apart.Goals as goal

-- A run that doesn't end at 0 ends at the rank of the range's end,
end_of_run : (keys : List (List ℕ)) (range : Range) (own : ℕ × ℕ) → own ≡ run_or_none keys range → 0 < own.1
    → own.1 ≡ rank keys range.end
end_of_run keys range own is some = elim (cases_Bool (is_filled range)) [
  | inl filled ↦ ap (λ (r : ℕ × ℕ). r.1) is ∙ (rw filled refl)
  | inr empty ↦ let none : own.1 ≡ 0 = ap (λ (r : ℕ × ℕ). r.1) is ∙ (rw empty refl) in absurd (omega (arith, none, some))
]

-- and one that doesn't begin at 0 begins at that of its begin.
begin_of_run : (keys : List (List ℕ)) (range : Range) (own : ℕ × ℕ) → own ≡ run_or_none keys range → 0 < own.0
    → own.0 ≡ rank keys range.begin
begin_of_run keys range own is some = elim (cases_Bool (is_filled range)) [
  | inl filled ↦ ap (λ (r : ℕ × ℕ). r.0) is ∙ (rw filled refl)
  | inr empty ↦ let none : own.0 ≡ 0 = ap (λ (r : ℕ × ℕ). r.0) is ∙ (rw empty refl) in absurd (omega (arith, none, some))
]

pub returns-then-first-gt0 : goal.returns-then-first-gt0
returns-then-first-gt0 c = record {
  filled = λ determined. (c.if-first-gt0.true, omega (arith, ltb-true c.args.first.1 c.args.second.0 determined));
  apart = λ determined keys a b first second.
      let less = ltb-true c.args.first.1 c.args.second.0 determined in
      before_from_rank keys a.end b.begin (omega (
        arith,
        less,
        end_of_run keys a c.args.first first c.if-first-gt0.true,
        begin_of_run keys b c.args.second second (omega (arith, less)),
      ));
}
