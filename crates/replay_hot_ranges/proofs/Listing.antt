-- What follows for a list of the greatest counts.
use Rattle.std.proofs.Common.{◌≡◌, ◌≢◌, ℕ, ◌<◌, ◌≤◌, Bool, true, false, cond, ◌==◌, List, length, get_or, map, All, Contains, Ordering, Less, Equal, Greater, inl, inr, refl, sym, ap, ◌∙◌, arith}
use Rattle.std.specs.Prelude.{nat_lt}
use Rattle.std.specs.Ordering.{nat_cmp, ordering_reverse, ordering_then}
use Rattle.std.proofs.lemmas.List.{get_or-map, length-map}
use Rattle.std.proofs.lemmas.Map.Keys.{Less-from_sorted}
use Rattle.replay_hot_ranges.specs.Counts.{Ends}
use Rattle.replay_hot_ranges.specs.Top.{IsTop, ends_cmp, ends_of, row_cmp, row_of}
use Rattle.replay_hot_ranges.specs.declared.hot_range.HotRange.{HotRange}
use Rattle.replay_hot_ranges.proofs.Ranking.{rows_total}

-- the second number of rows in order is at most the first
at_most_from_less : (n m : ℕ) (o : Ordering) → ordering_then (nat_cmp n m) o ≡ Less → n ≤ m
at_most_from_less n m o less = go (nat_lt n m) (n == m) refl refl
  where
    go : (a b : Bool) → nat_lt n m ≡ a → (n == m) ≡ b → n ≤ m
    go true b is same = grind arith
    go false true is same = grind arith
    go false false is same =
        absurd (let greater : ordering_then (nat_cmp n m) o ≡ Greater =
        ap (λ a. ordering_then (cond a Less (cond (n == m) Equal Greater)) o) is
        ∙ ap (λ b. ordering_then (cond b Equal Greater) o) same in
        greater_is_less (sym greater ∙ less))
      where
        greater_is_less : Greater ≡ Less → ⊥
        greater_is_less e = cc

module _ (count : Ends → ℕ) (most : ℕ) (hot : List HotRange) (top : IsTop count most hot) where
  pub others_are_at_most : (ends : Ends) → (Contains (map ends_of hot) ends → ⊥) → All (λ h. count ends ≤ h.conflicts) hot
  others_are_at_most ends unlisted k d inside = elim (top.others ends) [
    | inl here ↦ absurd (unlisted here)
    | inr (inl none) ↦ omega arith
    | inr (inr after) ↦
        at_most_from_less (count ends) (get_or hot k d).conflicts (ends_cmp (ends_of (get_or hot k d)) ends) (after.1 k d inside)
  ]

  pub all_if_fewer : length hot < most → (ends : Ends) → 0 < count ends → Contains (map ends_of hot) ends
  all_if_fewer fewer ends some = elim (top.others ends) [
    | inl here ↦ here
    | inr (inl none) ↦ absurd (omega arith)
    | inr (inr after) ↦ absurd (let full = after.0 in omega arith)
  ]

  pub none_is_twice : (i j : ℕ) (d : HotRange) → i < j → j < length hot → ends_of (get_or hot i d) ≢ ends_of (get_or hot j d)
  none_is_twice i j d rises within same =
      let len : length (map row_of hot) ≡ length hot = length-map hot row_of in
      let before : i < length hot = omega arith in
      let x = get_or hot i d in
      let y = get_or hot j d in
      let same_row : row_of x ≡ row_of y =
      λ k. (same k, ((top.counts i d before).0 ∙ ap count same ∙ sym (top.counts j d within).0) k) in
      let less : row_cmp (row_of x) (row_of y) ≡ Less =
      ap (λ r. row_cmp r (row_of y)) (sym (get_or-map row_of hot i d (row_of d) before))
      ∙ ap (row_cmp (get_or (map row_of hot) i (row_of d))) (sym (get_or-map row_of hot j d (row_of d) within))
      ∙ Less-from_sorted row_cmp (map row_of hot) i j (row_of d) top.order rises (omega arith) in
      not_below_itself (row_cmp (row_of y) (row_of y)) (rows_total.antisymm (row_of y) (row_of y))
      (ap (λ r. row_cmp r (row_of y)) (sym same_row) ∙ less)
    where
      not_below_itself : (o : Ordering) → o ≡ ordering_reverse o → o ≡ Less → ⊥
      not_below_itself Less turned less = cc
      not_below_itself Equal turned less = cc
      not_below_itself Greater turned less = cc
