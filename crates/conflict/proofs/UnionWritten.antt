-- The ranges that the spans name are written, so what they unite is.
use Rattle.std.proofs.Common.{◌≡◌, ℕ, ◌+◌, ◌*◌, ◌<◌, List, [], ◌∷◌, ◌++◌, length, map, refl, ap, ap₂, ◌∙◌, arith}
use Rattle.std.proofs.lemmas.List.{length-map}
use Rattle.std.specs.Prelude.{ℤ, ◌≤ℤ◌}
use Rattle.std.specs.List.{AllZip}
use Rattle.keys.specs.Key.{IsBefore}
use Rattle.keyspace.specs.Writes.{Write, at_version}
use Rattle.keys.specs.declared.range.Range.{Range}
use Rattle.stepmap.specs.StepMap.{lengths}
use Rattle.stepmap.specs.Writing.{AreApart}
use Rattle.stepmap.specs.Counting.{live_count}
use Rattle.stepmap.specs.Laws.{CountedAlong}
use Rattle.conflict.specs.declared.union.UnitedSpan.{UnitedSpan}
use Rattle.conflict.specs.Union.{AreSpanned, IsUnion}
use Rattle.conflict.specs.ConflictSet.{IsOverLimit}
use Rattle.conflict.proofs.Spanned.{begins_same, ends_same, spanned_count}

-- ranges with the same begin and the same end
record SameKeys (a b : Range) : Type 0 where
  begins : a.begin ≡ b.begin
  ends : a.end ≡ b.end

before_same : {a b c d : List ℕ} → a ≡ c → b ≡ d → IsBefore a b → IsBefore c d
before_same {a} {b} {c} {d} ac bd before = rw (← ac, ← bd) before

-- so their lengths are the same
lengths_alike : (us vs : List Range) → AllZip SameKeys us vs → map lengths us ≡ map lengths vs
lengths_alike [] [] same = refl
lengths_alike [] (v ∷ vs) same = absurd same
lengths_alike (u ∷ us) [] same = absurd same
lengths_alike (u ∷ us) (v ∷ vs) same =
    ap₂ (λ begin end. (length begin, length end) ∷ map lengths us) same.0.begins same.0.ends
    ∙ ap (λ ls. lengths v ∷ ls) (lengths_alike us vs same.1)

-- the ones are apart if the others are
apart_same : (us vs : List Range) → AllZip SameKeys us vs → AreApart us → AreApart vs
apart_same us [] same apart = tt
apart_same [] (v ∷ vs) same apart = absurd same
apart_same (u ∷ []) (v ∷ []) same apart = before_same same.0.begins same.0.ends apart
apart_same (u ∷ []) (v ∷ w ∷ vs) same apart = absurd same.1
apart_same (u ∷ t ∷ us) (v ∷ []) same apart = absurd same.1
apart_same (u ∷ t ∷ us) (v ∷ w ∷ vs) same apart = (
  before_same same.0.begins same.0.ends apart.0,
  before_same same.0.ends same.1.0.begins apart.1,
  apart_same (t ∷ us) (w ∷ vs) same.1 apart.2,
)

-- those that the same spans name are equal
spanned_same : (ranges : List Range) (spans : List UnitedSpan) (us vs : List Range) → AreSpanned ranges spans us
    → AreSpanned ranges spans vs → AllZip SameKeys us vs
spanned_same ranges [] [] [] su sv = tt
spanned_same ranges [] [] (b ∷ vs) su sv = absurd sv
spanned_same ranges [] (a ∷ us) vs su sv = absurd su
spanned_same ranges (x ∷ spans) [] vs su sv = absurd su
spanned_same ranges (x ∷ spans) (a ∷ us) [] su sv = absurd sv
spanned_same ranges (x ∷ spans) (a ∷ us) (b ∷ vs) su sv = (
  record { begins = begins_same su.0 sv.0; ends = ends_same su.0 sv.0 },
  spanned_same ranges spans us vs su.1 sv.1,
)

module _ (ranges : List Range) (spans : List UnitedSpan) (each : List (ℕ × ℕ)) (written : List Range)
    (one : IsUnion ranges spans each written) where
  -- there are as many united ranges as spans, and as many lengths
  pub count : length one.united ≡ length spans
  count = spanned_count ranges spans one.united one.spanned

  pub each_count : length each ≡ length spans
  each_count = ap length one.ready ∙ length-map one.united lengths ∙ count

  pub apart : (united : List Range) → AreSpanned ranges spans united → AreApart united
  apart united spanned =
      apart_same one.united united (spanned_same ranges spans one.united united one.spanned spanned) one.unites.apart

  -- those that the spans name have these lengths
  pub ready_same : (united : List Range) → AreSpanned ranges spans united → each ≡ map lengths united
  ready_same united spanned =
      one.ready ∙ lengths_alike one.united united (spanned_same ranges spans one.united united one.spanned spanned)

  -- more boundaries than the limit for the spans are more for the ranges
  pub over_limit : CountedAlong → (limit : ℕ) (edge version : ℤ) (ws : List Write) → edge ≤ℤ version
      → limit < 1 + 2 * (live_count edge ws + length spans) → IsOverLimit limit edge (ws ++ at_version version written)
  over_limit along limit edge version ws late over =
      let counted = along edge version ws written late in
      omega (arith, one.unites.few, count, counted, over)
