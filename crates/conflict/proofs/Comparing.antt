-- What a comparison of two keys shows, which code makes of slices that have these keys.
use Rattle.std.proofs.Common.{◌≡◌, ℕ, Bool, true, false, not, List, refl, sym, ap, ◌∙◌}
use Rattle.std.specs.Ordering.{nat_cmp, is_le, is_lt}
use Rattle.std.specs.Cmp.Lexicographic.{slice_cmp}
use Rattle.std.specs.declared.cmp.Ordering.{Ordering}
use Rattle.keys.specs.Key.{is_before, IsBefore, IsAtMost}
use Rattle.keys.proofs.callers.KeyOrder.{is_le-cmp}

true_if_not : (b : Bool) → not b ≡ false → b ≡ true
true_if_not true e = refl
true_if_not false e = cc

module _ (a b x y : List ℕ) (o : Ordering) (r : Bool) (first : a ≡ x) (second : b ≡ y)
    (is : o ≡ slice_cmp nat_cmp a b) where
  cmp_is : o ≡ slice_cmp nat_cmp x y
  cmp_is = is ∙ ap (λ k. slice_cmp nat_cmp k b) first ∙ ap (slice_cmp nat_cmp x) second

  le_is : r ≡ is_le o → r ≡ not (is_before y x)
  le_is says = says ∙ ap is_le cmp_is ∙ is_le-cmp x y

  pub at_most_from_le : r ≡ is_le o → r ≡ true → IsAtMost x y
  at_most_from_le says holds = sym (le_is says) ∙ holds

  pub before_unless_le : r ≡ is_le o → r ≡ false → IsBefore y x
  before_unless_le says fails = true_if_not (is_before y x) (sym (le_is says) ∙ fails)

  lt_is : r ≡ is_lt o → r ≡ is_before x y
  lt_is says = says ∙ ap is_lt cmp_is

  pub before_from_lt : r ≡ is_lt o → r ≡ true → IsBefore x y
  before_from_lt says holds = sym (lt_is says) ∙ holds

  pub at_most_unless_lt : r ≡ is_lt o → r ≡ false → IsAtMost y x
  at_most_unless_lt says fails = ap not (sym (lt_is says) ∙ fails)
