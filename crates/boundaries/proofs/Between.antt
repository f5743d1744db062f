-- The boundaries between two bounds, and what they say of the values in a range.
use Rattle.std.proofs.Common.{◌≡◌, ℕ, ◌+◌, ◌-◌, Bool, true, false, not, ◌&&◌, List, [], ◌∷◌, ◌++◌, length, Some, take, drop, filter, refl, sym, ◌∙◌, ap, subst, inl, inr, arith, length-append}
use Rattle.std.specs.Prelude.{ℤ, negsuc, ◌≤ℤ◌, ◌<ℤ◌, Any, slice_range}
use Rattle.std.proofs.Math.Seq.{take-append_seam, drop-append_seam}
use Rattle.std.proofs.lemmas.List.{drop-take}
use Rattle.std.proofs.lemmas.List.Elements.{All-weaker, filter_agree}
use Rattle.arena.specs.Arena.{IsLive}
use Rattle.boundaries.specs.Item.{Item}
use Rattle.boundaries.specs.Path.{between}
use Rattle.keys.specs.Key.{IsBytes, is_before, IsBefore}
use Rattle.keys.specs.Range.{Holds, IsEmpty}
use Rattle.keys.specs.declared.range.Range.{Range}
use Rattle.keys.proofs.callers.KeyOrder.{at_most_before}
use Rattle.keys.proofs.callers.Booleans.{true_or_false}
use Rattle.boundaries.specs.Boundary.{Boundary, AreBoundaries, AreInOrder, value_at, last_version, below, from_on}
use Rattle.boundaries.proofs.Indexes.{up_to, after}
use Rattle.boundaries.specs.Bound.{is_below_at, slot_is_below}
use Rattle.boundaries.specs.Stored.{boundary_of}
use Rattle.boundaries.proofs.StoredItems.{AreKept, boundaries_in}
use Rattle.boundaries.specs.Bound.{Keys}
use Rattle.boundaries.proofs.callers.Order.{rising_in_order, rising_filter}
use Rattle.boundaries.proofs.callers.LeftFrom.{not_not}
use Rattle.boundaries.proofs.callers.Parting.{parted}
use Rattle.boundaries.proofs.callers.Values.{parted_below}
use Rattle.boundaries.proofs.IndexFound.{up_to_falls, value_up_to}
use Rattle.boundaries.proofs.callers.WritingValues.{begins_before_end}
use Rattle.boundaries.proofs.Partitioning.{filtered, slot_is_below_live}
use Rattle.boundaries.proofs.LastFound.{parted_up_to}
use Rattle.boundaries.proofs.AboveFound.{
  IsInside,
  inside_ordered,
  above_at_begin,
  above_inside,
  above_found,
}

-- the boundaries after the begin and before the end
abbrev pub inside : List ℕ → List ℕ → List Boundary → List Boundary
inside begin end bs = filter (λ b. is_before begin b.key && is_before b.key end) bs

module _ (keys : Keys) where
  -- the items between two bounds have the boundaries between them
  pub between_bounds : (items : List Item) → AreKept keys items → (from_up_to to_up_to : Bool) (begin end : List ℕ)
      → boundaries_in keys
      (between (Some (slot_is_below keys from_up_to begin)) (Some (slot_is_below keys to_up_to end)) items)
      ≡ filter (λ b. not (is_below_at from_up_to begin b.key) && is_below_at to_up_to end b.key)
      (boundaries_in keys items)
  between_bounds items s u v begin end =
      let p = λ (x : Item). not (slot_is_below keys u begin x.key) && slot_is_below keys v end x.key in
      let q = λ (b : Boundary). not (is_below_at u begin b.key) && is_below_at v end b.key in
      filtered (boundary_of keys) p q items
      (All-weaker (λ x. IsLive keys x.key) (λ x. p x ≡ q (boundary_of keys x))
      (λ x l. rw (slot_is_below_live keys u begin x.key l, slot_is_below_live keys v end x.key l) refl) items s.live)

  -- up to one key and before another
  pub between_inside : (items : List Item) → AreKept keys items → (begin end : List ℕ)
      → boundaries_in keys (between (Some (slot_is_below keys true begin)) (Some (slot_is_below keys false end)) items)
      ≡ inside begin end (boundaries_in keys items)
  between_inside items s begin end =
      between_bounds items s true false begin end
      ∙ filter_agree (λ b. not (is_below_at true begin b.key) && is_below_at false end b.key)
      (λ b. is_before begin b.key && is_before b.key end)
      (λ b. ap (λ t. t && is_before b.key end) (sym (not_not (is_before begin b.key)))) (boundaries_in keys items)

-- one test after the other is both
filter_both : {X : Type 0} (p q : X → Bool) (xs : List X) → filter p (filter q xs) ≡ filter (λ x. p x && q x) xs
filter_both p q [] = refl
filter_both p q (x ∷ xs) =
    let i = filter_both p q xs in
    elim (true_or_false (q x)) [
      | inl t ↦ elim (true_or_false (p x)) [
        | inl u ↦ rw (t, u) (ap (λ ys. x ∷ ys) i)
        | inr n ↦ rw (t, n) i
      ]
      | inr n ↦ elim (true_or_false (p x)) [ inl u ↦ rw (n, u) i | inr m ↦ rw (n, m) i ]
    ]

and_weaker : (a b : Bool) → (a ≡ true → b ≡ true) → (a && b) ≡ a
and_weaker true b f = f refl
and_weaker false b f = refl

-- those before the end are those up to the begin and those inside
below_parts : (begin end : List ℕ) (bs : List Boundary) → AreInOrder bs → IsBefore begin end
    → below end bs ≡ up_to begin bs ++ inside begin end bs
below_parts begin end bs o l =
    let p = λ (b : Boundary). not (is_before begin b.key) in
    let q = λ (b : Boundary). is_before b.key end in
    let front : filter p (below end bs) ≡ up_to begin bs =
    filter_both p q bs
    ∙ filter_agree (λ b. p b && q b) p (λ b. and_weaker (p b) (q b) (λ h. at_most_before b.key begin end h l)) bs in
    parted p (λ b. is_before begin b.key) (λ b. not_not (is_before begin b.key)) (up_to_falls begin) (below end bs)
    (rising_filter q bs (rising_in_order bs o))
    ∙ ap (λ xs. xs ++ filter (λ b. is_before begin b.key) (below end bs)) front
    ∙ ap (λ xs. up_to begin bs ++ xs) (filter_both (λ b. is_before begin b.key) q bs)

module _ (range : Range) (filled : ¬ IsEmpty range) (bs : List Boundary) (h : AreBoundaries bs) where
  abbrev from : ℕ
  from = length (up_to range.begin bs)

  abbrev to : ℕ
  to = length (below range.end bs)

  is_inside : IsInside range bs from to
  is_inside =
      let before = up_to range.begin bs in
      let later = after range.begin bs in
      let sooner = below range.end bs in
      let back = from_on range.end bs in
      let partitioned = parted_up_to range.begin bs h.in_order in
      let end = parted_below range.end bs (rising_in_order bs h.in_order) in
      record {
        from_in = omega (arith, ap length partitioned, length-append before later);
        to_in = omega (arith, ap length end, length-append sooner back);
        front = ap (take (length before)) partitioned ∙ take-append_seam before later;
        later = ap (drop (length before)) partitioned ∙ drop-append_seam before later;
        sooner = ap (take (length sooner)) end ∙ take-append_seam sooner back;
        back = ap (drop (length sooner)) end ∙ drop-append_seam sooner back;
      }

  slice_inside : slice_range bs from to ≡ inside range.begin range.end bs
  slice_inside =
      let le = inside_ordered range filled bs h from to is_inside in
      let add : from + (to - from) ≡ to = omega arith in
      let found : slice_range bs from to ≡ drop from (take to bs) =
      sym (ap (λ n. drop from (take n bs)) (sym add) ∙ drop-take from (to - from) bs) in
      found
      ∙ ap (drop from)
      (is_inside.sooner ∙ below_parts range.begin range.end bs h.in_order (begins_before_end range filled))
      ∙ drop-append_seam (up_to range.begin bs) (inside range.begin range.end bs)

  module _ (v : ℤ) (at_begin : v ≡ value_at bs range.begin) where
    first : v ≡ last_version (negsuc 0) (take from bs)
    first =
        at_begin ∙ value_up_to bs range.begin (parted_up_to range.begin bs h.in_order)
        ∙ ap (last_version (negsuc 0)) (sym is_inside.front)

    -- the function is above the number at the begin, or at a boundary inside, or nowhere in the range
    pub above_by_begin : (s : ℤ) → s <ℤ v
        → (key : List ℕ) × IsBytes key × Holds range key × (s <ℤ value_at bs key)
    above_by_begin s = above_at_begin range filled bs h from to is_inside v s first

    pub above_by_inside : (s : ℤ) → Any (λ b. s <ℤ b.version) (inside range.begin range.end bs)
        → (key : List ℕ) × IsBytes key × Holds range key × (s <ℤ value_at bs key)
    above_by_inside s a =
        above_inside range filled bs h from to is_inside v s first
        (subst (Any (λ b. s <ℤ b.version)) (sym slice_inside) a)

    pub inside_if_above : (s : ℤ) → v ≤ℤ s → (key : List ℕ) → Holds range key → s <ℤ value_at bs key
        → Any (λ b. s <ℤ b.version) (inside range.begin range.end bs)
    inside_if_above s le key held lt =
        subst (Any (λ b. s <ℤ b.version)) slice_inside
        (above_found range filled bs h from to is_inside v s first key held lt le)
