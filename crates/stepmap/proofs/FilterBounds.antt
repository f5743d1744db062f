-- What the filter tells, and that it goes on telling where a step map changes.
use Rattle.std.proofs.Common.{◌≡◌, ℕ, List, inl, inr, sym, subst, arith}
use Rattle.std.specs.Prelude.{ℤ, ◌≤ℤ◌, ◌<ℤ◌}
use Rattle.std.proofs.lemmas.Int.{ints}
use Rattle.stepmap.specs.Filter.{FilterState, bound}
use Rattle.keys.specs.Range.{Holds}
use Rattle.keys.specs.declared.range.Range.{Range}
use Rattle.keys.proofs.callers.KeyOrder.{not_both, before_or_at_most}
use Rattle.stepmap.specs.Boundary.{value_at}
use Rattle.stepmap.specs.StepMap.{Steps}
use Rattle.stepmap.specs.Covers.{SameFrom, IsAbove}
use Rattle.keys.specs.Range.{IsSingle}
use Rattle.stepmap.specs.Filtering.{BoundsSteps}
use Rattle.boundaries.proofs.callers.SingleKeys.{single_holds}

-- the function isn't above a number at a single key whose bound isn't
pub not_above : (f : FilterState) (m : Steps) (range : Range) (s : ℤ) → BoundsSteps f m → m.edge ≤ℤ s
    → IsSingle range → bound f range.begin ≤ℤ s → ¬ IsAbove m range s
not_above f m range s determines from single low above =
    let key = above.0 in
    let higher : s <ℤ bound f key = determines key above.1 s from above.3 in
    let there : s <ℤ bound f range.begin =
    subst (λ key. s <ℤ bound f key) (single_holds range key single above.2) higher in
    absurd (omega (arith, ints))

module _ (f : FilterState) (old new : Steps) (determines : BoundsSteps f old) where
  -- where the function stays the same at and above the edge
  pub determines_same : new.edge ≡ old.edge → SameFrom old.edge (value_at old.boundaries) (value_at new.boundaries)
      → BoundsSteps f new
  determines_same edge same key bytes s from above =
      let from : old.edge ≤ℤ s = omega (arith, ints, edge, from) in
      determines key bytes s from ((same key bytes s from).1 above)

  -- where bounds rise, and those of keys that are written to the version at least
  pub determines_written : (g : FilterState) (range : Range) (version : ℤ) → new.edge ≡ old.edge
      → ((key : List ℕ) → Holds range key → value_at new.boundaries key ≡ version)
      → ((key : List ℕ) → ¬ Holds range key → value_at new.boundaries key ≡ value_at old.boundaries key)
      → ((key : List ℕ) → Holds range key → version ≤ℤ bound g key)
      → ((key : List ℕ) → bound f key ≤ℤ bound g key) → BoundsSteps g new
  determines_written g range version edge on_range elsewhere noted raised key bytes s from above =
      let outside : ¬ Holds range key → s <ℤ bound g key =
      λ out.
      let from : old.edge ≤ℤ s = omega (arith, ints, edge, from) in
      let before : s <ℤ bound f key = determines key bytes s from (subst (λ (x : ℤ). s <ℤ x) (elsewhere key out) above) in
      omega (arith, ints, before, raised key) in
      elim (before_or_at_most key range.begin) [
        | inl before ↦ outside (λ h. not_both key range.begin before h.0)
        | inr from_begin ↦ elim (before_or_at_most key range.end) [
          | inl within ↦
              let holds : Holds range key = (from_begin, within) in
              omega (arith, ints, above, on_range key holds, noted key holds)
          | inr past ↦ outside (λ h. not_both key range.end h.1 past)
        ]
      ]

  -- where the bounds stay as they are
  pub determines_equal : (g : FilterState) → new.edge ≡ old.edge → new.boundaries ≡ old.boundaries
      → ((key : List ℕ) → bound g key ≡ bound f key) → BoundsSteps g new
  determines_equal g edge same equal key bytes s from above =
      let from : old.edge ≤ℤ s = omega (arith, ints, edge, from) in
      let before : s <ℤ bound f key = determines key bytes s from (subst (λ bs. s <ℤ value_at bs key) same above) in
      subst (λ (x : ℤ). s <ℤ x) (sym (equal key)) before
