-- Ranges that are written in sequence.
use Rattle.std.proofs.Common.{◌≡◌, ℕ, zero, suc, ◌+◌, ◌≤◌, List, [], ◌∷◌, ◌++◌, length, take, add-one, refl, sym, ap, subst, ◌∙◌, arith}
use Rattle.std.specs.Prelude.{ℤ, Some, slice_get}
use Rattle.std.proofs.Math.Seq.{take-length}
use Rattle.std.proofs.lemmas.Option.{slice_get_within, get_or_from_slice_get}
use Rattle.std.proofs.lemmas.List.{take_more}
use Rattle.keys.specs.declared.range.Range.{Range}
use Rattle.stepmap.specs.StepMap.{Steps}
use Rattle.keys.proofs.callers.Lists.{some_at}
use Rattle.stepmap.specs.Laws.{IsWriting, WritesInTurn}
use Rattle.stepmap.specs.Writing.{after_write}
use Rattle.conflict.specs.Pace.{after_writes}

after_writes-append : (xs ys : List Range) (version : ℤ) (m : Steps)
    → after_writes (xs ++ ys) version m ≡ after_writes ys version (after_writes xs version m)
after_writes-append [] ys version m = refl
after_writes-append (x ∷ xs) ys version m = after_writes-append xs ys version (after_write x version m)

-- one more is written
pub after_writes_more : (ranges : List Range) (i : ℕ) (range : Range) (version : ℤ) (m : Steps)
    → slice_get ranges i ≡ Some range
    → after_writes (take (i + 1) ranges) version m ≡ after_write range version (after_writes (take i ranges) version m)
after_writes_more ranges i range version m at =
    let within = slice_get_within ranges i range at in
    let same = get_or_from_slice_get ranges i range range at in
    ap (λ rs. after_writes rs version m)
    (take_more ranges i range within ∙ ap (λ r. take i ranges ++ r ∷ []) same)
    ∙ after_writes-append (take i ranges) (range ∷ []) version m

-- all are
pub after_writes_all : (ranges : List Range) (i : ℕ) (version : ℤ) (m : Steps) → i ≡ length ranges
    → after_writes (take i ranges) version m ≡ after_writes ranges version m
after_writes_all ranges i version m all =
    ap (λ rs. after_writes rs version m) (ap (λ n. take n ranges) all ∙ take-length ranges)

-- ranges that may be written in turn are
module _ (ranges : List Range) (version : ℤ) (turn : WritesInTurn ranges version) (m : Steps)
    (start : IsWriting ranges version 0 m m) where
  written_to : (i : ℕ) → i ≤ length ranges → IsWriting ranges version i m (after_writes (take i ranges) version m)
  written_to zero most = start
  written_to (suc i) most =
      let range = some_at ranges i (omega (arith, most)) in
      let before = after_writes (take i ranges) version m in
      let later = after_writes (take (suc i) ranges) version m in
      let more : later ≡ after_write range.0 version before =
      ap (λ n. after_writes (take n ranges) version m) (sym (add-one i)) ∙ after_writes_more ranges i range.0 version m range.1 in
      subst (λ n. IsWriting ranges version n m later) (add-one i)
      (turn.step i range.0 m before later (written_to i (omega (arith, most))) range.1 more)

  pub written_all : IsWriting ranges version (length ranges) m (after_writes ranges version m)
  written_all =
      subst (IsWriting ranges version (length ranges) m) (after_writes_all ranges (length ranges) version m refl)
      (written_to (length ranges) (omega arith))
