-- Ranges in the order of their counts, and the first of them.
use Rattle.std.proofs.Common.{◌≡◌, ℕ, ◌+◌, ◌<◌, ◌≤◌, min, Bool, true, false, cond, not, ◌&&◌, ◌==◌, List, [], length, get_or, map, take, Option, Some, None, All, Contains, Ordering, Less, Equal, Greater, Bor, inl, inr, ◌⊎◌, refl, sym, ap, subst, ◌∙◌, arith}
use Rattle.std.specs.Prelude.{nat_lt, IsPermutation}
use Rattle.std.specs.BTreeMap as tree
use Rattle.std.specs.BTreeMap.{is_at}
use Rattle.std.specs.Cmp.{IsStrictWeakOrder, IsTotalOrder, eq_by_cmp_equiv, nat_cmp_total}
use Rattle.std.specs.Fn.{Called, ComparesAs}
use Rattle.std.specs.List.{IsDistinct}
use Rattle.std.specs.List.Sorted.{IsSortedBy, IsStableBy, IsStrictlySortedBy, ties}
use Rattle.std.specs.Map.{keys_of}
use Rattle.std.specs.Ordering.{eq_by_cmp, is_eq, is_lt, nat_cmp, ordering_reverse, ordering_then}
use denote.Param.Members.{Mut}
use Rattle.std.proofs.lemmas.Cmp.{back_total, on_total, then_total}
use Rattle.std.proofs.lemmas.Fn.{always_returns_same}
use Rattle.std.proofs.lemmas.List.{get_or-map, get_or-take, length-map, length-take}
use Rattle.std.proofs.lemmas.List.Elements.{All-take}
use Rattle.std.proofs.lemmas.List.Sorted.{All-permutation, Contains-permutation, IsPermutation-map, IsStrictWeakOrder-flip, ranks_by, ties_stay_sorted}
use Rattle.std.proofs.lemmas.Map.Entries.{btree_map_get_place, place_from_lookup}
use Rattle.std.proofs.lemmas.Map.Keys.{IsDistinct-IsPermutation, IsDistinct-from_sorted, Less-from_sorted, apart_from_distinct, sorted_from_all_adjacent}
use Rattle.std.proofs.lemmas.Map.Views.{tells_apart}
use Rattle.std.proofs.lemmas.Option.{get_or_from_slice_get, slice_get_within}
use Rattle.std.proofs.lemmas.Simd.{map-map}
use Rattle.keys.proofs.callers.Lists.{some_at}
use Rattle.replay_hot_ranges.specs.Counts.{Ends}
use Rattle.replay_hot_ranges.specs.RangeTally.{conflicts_at, conflicts_in, rows_of}
use Rattle.replay_hot_ranges.specs.Top.{IsTop, ends_cmp, ends_of, row_cmp, row_of}
use Rattle.replay_hot_ranges.specs.declared.hot_range.HotRange.{HotRange}
use Rattle.replay_hot_ranges.specs.declared.tally.Count.{Count}
use Rattle.replay_hot_ranges.specs.declared.tally.RangeTally.{RangeTally}
use Rattle.replay_hot_ranges.proofs.Keys.{ends_exact, ends_total}

abbrev Row : Type 0
Row = Ends × ℕ

-- whether the first has the greater count
abbrev precedes : HotRange → HotRange → Bool
precedes x y = is_lt (nat_cmp y.conflicts x.conflicts)

-- whether the first range comes before the second in the map
abbrev is_below : HotRange → HotRange → Bool
is_below x y = is_lt (ends_cmp (ends_of x) (ends_of y))

precedes_weak : IsStrictWeakOrder precedes
precedes_weak = IsStrictWeakOrder-flip _ (ranks_by nat_cmp_total (λ (x : HotRange). x.conflicts))

below_weak : IsStrictWeakOrder is_below
below_weak = ranks_by ends_total ends_of

pub rows_total : IsTotalOrder row_cmp
rows_total =
    then_total (on_total (λ (r : Row). r.1) (back_total nat_cmp_total)) (on_total (λ (r : Row). r.0) ends_total)

-- orders

not_below_after : (o : Ordering) → o ≡ Less → is_lt (ordering_reverse o) ≡ false
not_below_after Less is = refl
not_below_after Equal is = absurd cc
not_below_after Greater is = absurd cc

less_unless : (o : Ordering) → is_lt (ordering_reverse o) ≡ false → is_eq o ≡ false → o ≡ Less
less_unless Less back apart = refl
less_unless Equal back apart = absurd cc
less_unless Greater back apart = absurd cc

not_less : (a b : ℕ) → is_lt (nat_cmp a b) ≡ false → b ≤ a
not_less a b test = go (nat_lt a b) refl
  where
    go : (c : Bool) → nat_lt a b ≡ c → b ≤ a
    go true is = absurd (let both : true ≡ false = sym (ap (λ c. is_lt (cond c Less (cond (a == b) Equal Greater))) is) ∙ test in cc)
    go false is = grind arith

numbers_order : (n m : ℕ) → n ≤ m → (nat_cmp n m ≡ Less) ⊎ ((nat_cmp n m ≡ Equal) × (m ≡ n))
numbers_order n m low = go (nat_lt n m) (n == m) refl refl
  where
    go : (a b : Bool) → nat_lt n m ≡ a → (n == m) ≡ b
        → (cond a Less (cond b Equal Greater) ≡ Less) ⊎ ((cond a Less (cond b Equal Greater) ≡ Equal) × (m ≡ n))
    go true b less same = inl refl
    go false true less same = inr (refl, grind arith)
    go false false less same = absurd (grind arith)

tied : (n m : ℕ) → m ≡ n → not (is_lt (nat_cmp n m)) && not (is_lt (nat_cmp m n)) ≡ true
tied n m same =
    ap (λ k. not (is_lt (nat_cmp n k)) && not (is_lt (nat_cmp k n))) same
    ∙ ap (λ o. not (is_lt o) && not (is_lt o)) (equal_itself n)
  where
    equal_itself : (k : ℕ) → nat_cmp k k ≡ Equal
    equal_itself k = go (nat_lt k k) (k == k) refl refl
      where
        go : (a b : Bool) → nat_lt k k ≡ a → (k == k) ≡ b → cond a Less (cond b Equal Greater) ≡ Equal
        go true b less same = absurd (grind arith)
        go false true less same = refl
        go false false less same = absurd (grind arith)

ends_flip : (x y : Ends) → eq_by_cmp ends_cmp x y ≡ eq_by_cmp ends_cmp y x
ends_flip x y = (eq_by_cmp_equiv ends_total).symm x y

module _ (tally : RangeTally) (ordered : tree.IsOrdered ends_cmp tally.counts) (all sorted : List HotRange)
    (rows : map row_of all ≡ rows_of tally) (moved : IsPermutation all sorted) (falls : IsSortedBy precedes sorted)
    (stable : IsStableBy precedes all sorted) where
  ends_are : map ends_of all ≡ keys_of tally.counts.entries
  ends_are =
      sym (map-map (λ (r : Row). r.0) row_of all) ∙ ap (map (λ (r : Row). r.0)) rows
      ∙ map-map (λ (r : Row). r.0) (λ (e : Ends × Count). (e.0, e.1.conflict_count)) tally.counts.entries

  up : IsStrictlySortedBy ends_cmp (map ends_of all)
  up = subst (IsStrictlySortedBy ends_cmp) (sym ends_are) ordered

  below_up : IsSortedBy is_below all
  below_up k d low inside =
      let len : length (map ends_of all) ≡ length all = length-map all ends_of in
      let less = Less-from_sorted ends_cmp (map ends_of all) k (k + 1) (ends_of d) up (omega arith) (omega arith) in
      let first = get_or-map ends_of all k d (ends_of d) (omega arith) in
      let second = get_or-map ends_of all (k + 1) d (ends_of d) (omega arith) in
      ap is_lt (ends_total.antisymm (ends_of (get_or all (k + 1) d)) (ends_of (get_or all k d)))
      ∙ not_below_after (ends_cmp (ends_of (get_or all k d)) (ends_of (get_or all (k + 1) d)))
      (ap (λ x. ends_cmp x (ends_of (get_or all (k + 1) d))) (sym first)
      ∙ ap (ends_cmp (get_or (map ends_of all) k (ends_of d))) (sym second) ∙ less)

  distinct : IsDistinct (eq_by_cmp ends_cmp) (map ends_of sorted)
  distinct =
      IsDistinct-IsPermutation (eq_by_cmp ends_cmp) ends_flip (map ends_of all) (map ends_of sorted)
      (IsPermutation-map ends_of all sorted moved) (IsDistinct-from_sorted ends_cmp (map ends_of all) up)

  -- neighbours are in order
  next : (k : ℕ) (d : HotRange) → k + 1 < length sorted → row_cmp (row_of (get_or sorted k d)) (row_of (get_or sorted (k + 1) d)) ≡ Less
  next k d inside =
      let x = get_or sorted k d in
      let y = get_or sorted (k + 1) d in
      let low : y.conflicts ≤ x.conflicts = not_less x.conflicts y.conflicts (falls k d (omega arith) inside) in
      elim (numbers_order y.conflicts x.conflicts low) [
        | inl less ↦ ap (λ o. ordering_then o (ends_cmp (ends_of x) (ends_of y))) less
        | inr same ↦
            let len : length (map ends_of sorted) ≡ length sorted = length-map sorted ends_of in
            let first = get_or-map ends_of sorted k d (ends_of d) (omega arith) in
            let second = get_or-map ends_of sorted (k + 1) d (ends_of d) inside in
            let tie : ties precedes x y ≡ true = tied y.conflicts x.conflicts same.1 in
            let back : is_lt (ordering_reverse (ends_cmp (ends_of x) (ends_of y))) ≡ false =
            ap is_lt (sym (ends_total.antisymm (ends_of y) (ends_of x)))
            ∙ ties_stay_sorted is_below precedes below_weak precedes_weak all sorted below_up stable k d inside tie in
            let apart : is_eq (ends_cmp (ends_of x) (ends_of y)) ≡ false =
            ap (λ e. is_eq (ends_cmp e (ends_of y))) (sym first)
            ∙ ap (λ e. is_eq (ends_cmp (get_or (map ends_of sorted) k (ends_of d)) e)) (sym second)
            ∙ apart_from_distinct (eq_by_cmp ends_cmp) (map ends_of sorted) k (k + 1) (ends_of d) distinct (omega arith) (omega arith) in
            ap (λ o. ordering_then o (ends_cmp (ends_of x) (ends_of y))) same.0
            ∙ less_unless (ends_cmp (ends_of x) (ends_of y)) back apart
      ]

  -- so are all of them, and the first ones
  in_order : (part : List HotRange) → length part ≤ length sorted
      → ((k : ℕ) (d : HotRange) → k < length part → get_or part k d ≡ get_or sorted k d) → IsStrictlySortedBy row_cmp (map row_of part)
  in_order part short same =
      sorted_from_all_adjacent rows_total (map row_of part) (([], []), 0)
      (λ k inside.
      let len : length (map row_of part) ≡ length part = length-map part row_of in
      let within : k + 1 < length part = omega (arith, inside, len) in
      let d = (some_at part (k + 1) within).0 in
      let none : Row = (([], []), 0) in
      ap (λ r. row_cmp r (get_or (map row_of part) (k + 1) none))
      (get_or-map row_of part k d none (omega (arith, within)) ∙ ap row_of (same k d (omega (arith, within))))
      ∙ ap (row_cmp (row_of (get_or sorted k d))) (get_or-map row_of part (k + 1) d none within ∙ ap row_of (same (k + 1) d within))
      ∙ next k d (omega (arith, within, short)))

  all_order : IsStrictlySortedBy row_cmp (map row_of sorted)
  all_order = in_order sorted (omega arith) (λ k d inside. refl)

  -- each has the count of its range
  counts : All (λ (h : HotRange). (h.conflicts ≡ conflicts_at tally (ends_of h)) × (0 < h.conflicts)) all
  counts k d inside =
      let es = tally.counts.entries in
      let len_all : length (map row_of all) ≡ length all = length-map all row_of in
      let len_rows : length (rows_of tally) ≡ length es = length-map es (λ (e : Ends × Count). (e.0, e.1.conflict_count)) in
      let len_same : length (map row_of all) ≡ length (rows_of tally) = ap length rows in
      let within : k < length es = omega arith in
      let found = some_at es k within in
      let entry = found.0 in
      let row : row_of (get_or all k d) ≡ (entry.0, entry.1.conflict_count) =
      sym (get_or-map row_of all k d (row_of d) inside) ∙ ap (λ rs. get_or rs k (row_of d)) rows
      ∙ get_or-map (λ (e : Ends × Count). (e.0, e.1.conflict_count)) es k entry (row_of d) within
      ∙ ap (λ (e : Ends × Count). (e.0, e.1.conflict_count)) (get_or_from_slice_get es k entry entry found.1) in
      let at : tree.get ends_cmp tally.counts entry.0 ≡ Some entry.1 =
      btree_map_get_place ends_total tally.counts k entry.0 entry.1 ordered found.1 in (
        ap (λ (r : Row). r.1) row ∙ sym (ap conflicts_in at)
            ∙ ap (conflicts_at tally) (sym (ap (λ (r : Row). r.0) row)),
        subst (λ n. 0 < n) (sym (ap (λ (r : Row). r.1) row)) entry.1.some,
      )

  -- a range with a count is one of them
  listed : (ends : Ends) (count : Count) → tree.get ends_cmp tally.counts ends ≡ Some count → Contains (map row_of sorted) (ends, count.conflict_count)
  listed ends count is =
      let es = tally.counts.entries in
      let place = place_from_lookup (is_at (ends_cmp ends)) es count is in
      let within = slice_get_within es place.0 (place.1, count) place.2 in
      let same : ends ≡ place.1 = tells_apart ends_exact ends place.1 place.3 in
      let len_rows : length (rows_of tally) ≡ length es = length-map es (λ (e : Ends × Count). (e.0, e.1.conflict_count)) in
      let row : Row = (ends, count.conflict_count) in
      let at : get_or (rows_of tally) place.0 row ≡ row =
      get_or-map (λ (e : Ends × Count). (e.0, e.1.conflict_count)) es place.0 (place.1, count) row within
      ∙ ap (λ (e : Ends × Count). (e.0, e.1.conflict_count)) (get_or_from_slice_get es place.0 (place.1, count) (place.1, count) place.2)
      ∙ ap (λ e. (e, count.conflict_count)) (sym same) in
      let contained : Contains (rows_of tally) row = (place.0, omega arith, at) in
      Contains-permutation (map row_of all) (map row_of sorted) row (IsPermutation-map row_of all sorted moved)
      (subst (λ rs. Contains rs row) (sym rows) contained)

  module _ (most : ℕ) where
    abbrev first : List HotRange
    first = take most sorted

    first_len : length first ≡ min most (length sorted)
    first_len = length-take most sorted

    first_at : (k : ℕ) (d : HotRange) → k < length first → get_or first k d ≡ get_or sorted k d
    first_at k d inside = let len = first_len in get_or-take most sorted k d (omega arith)

    -- a row of the sorted list is listed, or all listed ones come before it
    module _ (row : Row) (place : Contains (map row_of sorted) row) where
      len_rows : length (map row_of sorted) ≡ length sorted
      len_rows = length-map sorted row_of

      early : place.0 < most → Contains (map ends_of first) row.0
      early less =
          let i = place.0 in
          let len = len_rows in
          let within : i < length sorted = omega (arith, place.1) in
          let len_first = first_len in
          let inside : i < length first = omega arith in
          let len_ends : length (map ends_of first) ≡ length first = length-map first ends_of in
          let found = some_at sorted i within in
          let d = found.0 in (
            i,
            omega arith,
            get_or-map ends_of first i d row.0 inside ∙ ap ends_of (first_at i d inside)
                ∙ ap (λ (r : Row). r.0) (sym (get_or-map row_of sorted i d row within) ∙ place.2),
          )

      full : most ≤ place.0 → length first ≡ most
      full late = let len = len_rows in let len_first = first_len in omega (arith, place.1)

      before : most ≤ place.0 → All (λ h. row_cmp (row_of h) row ≡ Less) first
      before late k d inside =
          let len = len_rows in
          let len_first = first_len in
          let less = Less-from_sorted row_cmp (map row_of sorted) k place.0 row all_order (omega arith) place.1 in
          ap (λ h. row_cmp (row_of h) row) (first_at k d inside)
          ∙ ap (λ r. row_cmp r row) (sym (get_or-map row_of sorted k d row (omega (arith, place.1))))
          ∙ ap (row_cmp (get_or (map row_of sorted) k row)) (sym place.2) ∙ less

      listed_or_after : Contains (map ends_of first) row.0 ⊎ ((length first ≡ most) × All (λ h. row_cmp (row_of h) row ≡ Less) first)
      listed_or_after = go (nat_lt place.0 most) refl
        where
          go : (b : Bool) → nat_lt place.0 most ≡ b
              → Contains (map ends_of first) row.0 ⊎ ((length first ≡ most) × All (λ h. row_cmp (row_of h) row ≡ Less) first)
          go true is = inl (early (grind arith))
          go false is = let late : most ≤ place.0 = grind arith in inr (full late, before late)

    others : (ends : Ends) → Contains (map ends_of first) ends
        ⊎ ((conflicts_at tally ends ≡ 0)
        ⊎ ((length first ≡ most) × All (λ h. row_cmp (row_of h) (ends, conflicts_at tally ends) ≡ Less) first))
    others ends = go (tree.get ends_cmp tally.counts ends) refl
      where
        go : (o : Option Count) → tree.get ends_cmp tally.counts ends ≡ o → Contains (map ends_of first) ends
            ⊎ ((conflicts_at tally ends ≡ 0)
            ⊎ ((length first ≡ most) × All (λ h. row_cmp (row_of h) (ends, conflicts_at tally ends) ≡ Less) first))
        go None is = inr (inl (ap conflicts_in is))
        go (Some count) is = elim (listed_or_after (ends, count.conflict_count) (listed ends count is)) [
          | inl here ↦ inl here
          | inr after ↦ inr (inr (subst
              (λ n. (length first ≡ most) × All (λ h. row_cmp (row_of h) (ends, n) ≡ Less) first)
              (sym (ap conflicts_in is)) after))
        ]

    pub top_from_sorted : IsTop (conflicts_at tally) most (take most sorted)
    top_from_sorted = record {
      few = let len = first_len in omega arith;
      counts =
          All-take (λ (h : HotRange). (h.conflicts ≡ conflicts_at tally (ends_of h)) × (0 < h.conflicts)) most sorted
          (All-permutation (λ (h : HotRange). (h.conflicts ≡ conflicts_at tally (ends_of h)) × (0 < h.conflicts)) all sorted moved counts);
      order = in_order first (let len = first_len in omega arith) first_at;
      others = others;
    }

-- from the clauses of `sort_by`, if each call compares the counts, the second one first
pub top_from_sort_by : {F : Type 0} {g : Mut F (Bor HotRange × (Bor HotRange × Unit {0})) Ordering} {f : F}
    (tally : RangeTally) (ordered : tree.IsOrdered ends_cmp tally.counts) (all sorted : List HotRange) (rows : map row_of all ≡ rows_of tally)
    (moved : IsPermutation all sorted)
    (falls : (lt : HotRange → HotRange → Bool) → IsStrictWeakOrder lt → ComparesAs g lt f → IsSortedBy lt sorted)
    (stable : (lt : HotRange → HotRange → Bool) → IsStrictWeakOrder lt → ComparesAs g lt f → IsStableBy lt all sorted) (most : ℕ)
    → ((a : Bor HotRange × (Bor HotRange × Unit {0})) (r : Ordering) (f' : F) → Called g f a r f'
    → (r ≡ nat_cmp a.1.0.now.conflicts a.0.now.conflicts) × (f' ≡ f)) → IsTop (conflicts_at tally) most (take most sorted)
top_from_sort_by {g = g} {f = f} tally ordered all sorted rows moved falls stable most calls =
    let compares : ComparesAs g precedes f =
    always_returns_same g (λ a r. is_lt r ≡ is_lt (nat_cmp a.1.0.now.conflicts a.0.now.conflicts)) f
    (λ a r f' k. (ap is_lt (calls a r f' k).0, (calls a r f' k).1)) in
    top_from_sorted tally ordered all sorted rows moved (falls precedes precedes_weak compares) (stable precedes precedes_weak compares) most
