-- The split points at or below a key, and those below it, are the first ones.
use Rattle.std.proofs.Common.{◌≡◌, ℕ, ◌<◌, ◌≤◌, Bool, true, false, not, List, [], length, get_or, sym, ap, ◌∙◌, subst, inl, inr, arith}
use Rattle.std.specs.Prelude.{Option, Some, IfSome, nat_lt, slice_get}
use Rattle.std.specs.List.Sorted.{IsPartitionPoint, IsPartitionedBy}
use Rattle.std.proofs.lemmas.Bool.{cases_lt}
use Rattle.std.proofs.lemmas.Bool.Decides.{nat_tests}
use Rattle.std.proofs.lemmas.Option.{slice_get_within, slice_get-get_or, get_or_from_slice_get}
use Rattle.keys.specs.Key.{is_before, IsAtMost, IsBefore}
use Rattle.keys.proofs.callers.Booleans.{not_both_ways}
use Rattle.keys.proofs.callers.KeyOrder.{at_most_before, at_most_trans, before_at_most_same, not_before_if}
use Rattle.serial.specs.Shards.{IsRising}
use Rattle.shards.specs.Reach.{AreFirst}
use Rattle.shards.proofs.ShardList.{rising_order}

-- a number below another one, by the test
pub below_test : (i n : ℕ) → i < n → nat_lt i n ≡ true
below_test i n h = grind (arith, nat_tests)

pub past_test : (i n : ℕ) → n ≤ i → nat_lt i n ≡ false
past_test i n h = grind (arith, nat_tests)

module _ (points : List (List ℕ)) (rising : IsRising [] points) (key : List ℕ) where
  pub up_to_parted : IsPartitionedBy (λ (point : List ℕ). not (is_before key point)) points
  up_to_parted i j d order within at_most = at_most_trans (get_or points i d) (get_or points j d) key (rising_order [] points rising i j d order within) at_most

-- the points before the partition point pass the test, and no other ones
pub first_from_point : (test : List ℕ → Bool) (points : List (List ℕ)) (n : ℕ) → n ≤ length points
    → IsPartitionPoint (λ point. test point ≡ true) (λ point. test point ≡ false) points n → AreFirst test points n
first_from_point test points n within parted = record {
  within = within;
  pass = λ i point at.
      let inside = slice_get_within points i point at in
      let is = get_or_from_slice_get points i point point at in
      elim (cases_lt i n) [
        | inl below ↦ ap test (sym is) ∙ parted.0 i point (omega arith) below ∙ sym (below_test i n below)
        | inr past ↦ ap test (sym is) ∙ parted.1 i point past inside ∙ sym (past_test i n past)
      ];
}

-- From an index on, the points before the first that doesn't come before the key are those that do.
pub last_from_stop : (points : List (List ℕ)) → IsRising [] points → (key : List ℕ) (from n : ℕ)
    → ((i : ℕ) (point : List ℕ) → from ≤ i → i < n → slice_get points i ≡ Some point → IsBefore point key)
    → IfSome (slice_get points n) (λ point. IsAtMost key point)
    → (i : ℕ) (point : List ℕ) → from ≤ i → slice_get points i ≡ Some point → is_before point key ≡ nat_lt i n
last_from_stop points rising key from n before next i point low at =
    let inside = slice_get_within points i point at in
    let is = get_or_from_slice_get points i point point at in
    elim (cases_lt i n) [
      | inl below ↦ before i point low below at ∙ sym (below_test i n below)
      | inr past ↦
          let stop = get_or points n point in
          let after : IsAtMost key stop =
          subst (λ (o : Option (List ℕ)). IfSome o (λ other. IsAtMost key other))
          (slice_get-get_or points n point (omega (arith, past, inside))) next in
          let later : IsAtMost stop point = subst (IsAtMost stop) is (rising_order [] points rising n i point past inside) in
          not_before_if key point (at_most_trans key stop point after later) ∙ sym (past_test i n past)
    ]

-- The points before a later key, given those up to an earlier one.
pub first_from_both : (points : List (List ℕ)) (begin end : List ℕ) (first last : ℕ) → last ≤ length points → first ≤ last
    → AreFirst (λ point. not (is_before begin point)) points first → IsBefore begin end
    → ((i : ℕ) (point : List ℕ) → first ≤ i → slice_get points i ≡ Some point → is_before point end ≡ nat_lt i last)
    → AreFirst (λ point. is_before point end) points last
first_from_both points begin end first last within low up_to filled later = record {
  within = within;
  pass = λ i point at.
      elim (cases_lt i first) [
        | inl below ↦
            let most : IsAtMost point begin = up_to.pass i point at ∙ below_test i first below in
            at_most_before point begin end most filled ∙ sym (below_test i last (omega (arith, below, low)))
        | inr past ↦ later i point past at
      ];
}

-- An empty range ends in the shard in which it begins.
pub first_from_same : (points : List (List ℕ)) (begin : List ℕ) (first last : ℕ) → last ≤ length points → first ≤ last
    → AreFirst (λ point. not (is_before begin point)) points first
    → ((i : ℕ) (point : List ℕ) → first ≤ i → slice_get points i ≡ Some point → is_before point begin ≡ nat_lt i last) → last ≡ first
first_from_same points begin first last within low up_to later =
    elim (cases_lt first last) [
      | inl more ↦
          let point = get_or points first [] in
          let at : slice_get points first ≡ Some point = slice_get-get_or points first [] (omega (arith, more, within)) in
          let before : is_before point begin ≡ true = later first point (omega arith) at ∙ below_test first last more in
          let after : not (is_before begin point) ≡ false = up_to.pass first point at ∙ past_test first first (omega arith) in
          absurd (not_both_ways (not (is_before begin point)) (before_at_most_same point begin before) after)
      | inr most ↦ omega (arith, low, most)
    ]
