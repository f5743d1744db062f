-- The last boundary up to the begin of a range and those inside it: whether one of them is above a number, and the greatest.
use Rattle.std.proofs.Common.{◌≡◌, ◌≢◌, ◌-◌, Bool, true, false, List, [], ◌∷◌, ◌++◌, length, length-append, Some, drop, map, refl, sym, ◌∙◌, ap, subst, inl, inr, ◌⊎◌, arith}
use Rattle.std.specs.Prelude.{All, ℕ, ℤ, pos, negsuc, ◌-ℤ◌, int_lt, ◌<ℤ◌, ◌≤ℤ◌, Any, ◌↔◌}
use Rattle.std.proofs.Math.Seq.{drop-append_seam}
use Rattle.std.proofs.lemmas.Bool.{cases_Bool}
use Rattle.std.proofs.lemmas.Int.{ints}
use Rattle.std.proofs.lemmas.List.{map-append, same_from_push}
use Rattle.std.proofs.lemmas.List.Elements.{All-head}
use Rattle.boundaries.proofs.callers.Values.{value_has}
use Rattle.boundaries.specs.Item.{IsGreatest, IsMost, Item, item_version}
use Rattle.boundaries.specs.Path.{items_below, between, from_last}
use Rattle.boundaries.specs.Items.{IsLast}
use Rattle.boundaries.proofs.callers.Lists.{last_and_between}
use Rattle.keys.specs.Key.{IsBytes}
use Rattle.keys.specs.Range.{Holds, IsEmpty}
use Rattle.keys.specs.declared.range.Range.{Range}
use Rattle.boundaries.specs.Boundary.{Boundary, AreBoundaries, value_at}
use Rattle.boundaries.specs.Bound.{slot_is_below}
use Rattle.boundaries.specs.Stored.{boundary_of}
use Rattle.boundaries.proofs.StoredItems.{AreKept, boundaries_in}
use Rattle.boundaries.specs.Bound.{Keys}
use Rattle.boundaries.proofs.Nested.{nested}
use Rattle.boundaries.proofs.Between.{between_inside, above_by_begin, above_by_inside, inside_if_above}
use Rattle.boundaries.proofs.Partitioning.{stored_partitioned}
use Rattle.boundaries.proofs.LastFound.{some_is_below, last_boundary, value_of_last}
use Rattle.keys.proofs.callers.SomeElement.{Any-weaker, Any-first, Any-later, Any-cases, Any-map, Any-unmap}
use Rattle.boundaries.proofs.callers.Unexpired.{lt_from_test, le_from_test}
use Rattle.boundaries.proofs.callers.WritingValues.{begins_before_end}

-- a list with an element has a last one
pub last_of : {X : Type 0} (xs : List X) → xs ≢ [] → (x : X) × IsLast x xs
last_of [] some = absurd (some refl)
last_of (x ∷ xs) some = from x xs
  where
    from : {X : Type 0} (x : X) (xs : List X) → (y : X) × IsLast y (x ∷ xs)
    from x [] = (x, ([], refl))
    from x (y ∷ ys) = let l = from y ys in (l.0, (x ∷ l.1.0, ap (λ zs. x ∷ zs) l.1.1))

-- the last element alone
last_alone : {X : Type 0} (x : X) (xs : List X) → IsLast x xs → drop (length xs - 1) xs ≡ x ∷ []
last_alone x xs last =
    let before = last.0 in
    let count : length (before ++ x ∷ []) - 1 ≡ length before = omega (arith, length-append before (x ∷ [])) in
    ap (λ ys. drop (length ys - 1) ys) last.1
    ∙ ap (λ n. drop n (before ++ x ∷ [])) count
    ∙ drop-append_seam before (x ∷ [])

above_or_not : (s v : ℤ) → (s <ℤ v) ⊎ (v ≤ℤ s)
above_or_not s v = elim (cases_Bool (int_lt s v)) [
  | inl t ↦ inl (lt_from_test s v t)
  | inr f ↦ inr (le_from_test s v f)
]

-- the version of the last item up to a key is the value there
pub value_of_version : (keys : Keys) (items : List Item) → AreKept keys items → (key : List ℕ) (v : ℤ)
    → IsLast v (map item_version (items_below (slot_is_below keys true key) items)) → v ≡ value_at (boundaries_in keys items) key
value_of_version keys items stored key v is =
    let xs = items_below (slot_is_below keys true key) items in
    let last = last_of xs (some_is_below keys items stored key) in
    let x = last.0 in
    let versions = ap (map item_version) last.1.1 ∙ map-append item_version last.1.0 (x ∷ []) in
    let same = (same_from_push (map item_version last.1.0) is.0 x.version v (sym versions ∙ is.1)).1 in
    sym same ∙ sym (value_of_last key (boundaries_in keys items) stored.in_order (boundary_of keys x)
    (last_boundary keys items stored true key x last.1))

module _ (keys : Keys) (items : List Item) (stored : AreKept keys items) (range : Range)
    (filled : ¬ IsEmpty range) where
  abbrev p : ℕ → Bool
  p = slot_is_below keys true range.begin

  abbrev q : ℕ → Bool
  q = slot_is_below keys false range.end

  abbrev bs : List Boundary
  bs = boundaries_in keys items

  abbrev inner : List Item
  inner = between (Some p) (Some q) items

  last_up_to : (x : Item) × IsLast x (items_below p items)
  last_up_to = last_of (items_below p items) (some_is_below keys items stored range.begin)

  found_are : from_last p (Some q) items ≡ last_up_to.0 ∷ inner
  found_are =
      last_and_between (λ (x : Item). p x.key) (λ (x : Item). q x.key)
      (λ x. nested keys true range.begin range.end (begins_before_end range filled) x.key) items
      (stored_partitioned keys items stored true range.begin).partitioned
      ∙ ap (λ xs. xs ++ inner) (last_alone last_up_to.0 (items_below p items) last_up_to.1)

  at_begin : last_up_to.0.version ≡ value_at bs range.begin
  at_begin =
      let x = last_up_to.0 in
      sym (value_of_last range.begin bs stored.in_order (boundary_of keys x)
      (last_boundary keys items stored true range.begin x last_up_to.1))

  module _ (are : AreBoundaries bs) (s : ℤ) where
    abbrev IsAbove : Item → Type 0
    IsAbove x = s <ℤ x.version

    abbrev Above : Boundary → Type 0
    Above b = s <ℤ b.version

    abbrev AboveSomewhere : Type 0
    AboveSomewhere = (key : List ℕ) × IsBytes key × Holds range key × (s <ℤ value_at bs key)

    answered : Any IsAbove (from_last p (Some q) items) → AboveSomewhere
    answered a = elim (Any-cases IsAbove last_up_to.0 inner (subst (Any IsAbove) found_are a)) [
      | inl first ↦ above_by_begin range filled bs are last_up_to.0.version at_begin s first
      | inr later ↦ above_by_inside range filled bs are last_up_to.0.version at_begin s
          (subst (Any Above) (between_inside keys items stored range.begin range.end)
          (Any-map (boundary_of keys) Above inner later))
    ]

    found : (key : List ℕ) → Holds range key → s <ℤ value_at bs key → Any IsAbove (from_last p (Some q) items)
    found key held lt =
        subst (Any IsAbove) (sym found_are)
        (elim (above_or_not s last_up_to.0.version) [
          | inl first ↦ Any-first IsAbove last_up_to.0 inner first
          | inr le ↦ Any-later IsAbove last_up_to.0 inner
              (Any-unmap (boundary_of keys) Above inner
              (subst (Any Above) (sym (between_inside keys items stored range.begin range.end))
              (inside_if_above range filled bs are last_up_to.0.version at_begin s le key held lt)))
        ])

    -- the function is above the number in the range exactly where one of them is
    pub above_answered : Any IsAbove (from_last p (Some q) items) ↔ AboveSomewhere
    above_answered = (answered, λ a. found a.0 a.2 a.3)

  -- A greatest version that isn't below all of them is one of theirs.
  pub most_is_greatest : AreBoundaries bs → (least r : ℤ) → least <ℤ negsuc 0
      → IsMost (λ x. x.version) least (from_last p (Some q) items) r → IsGreatest (λ x. x.version) r (from_last p (Some q) items)
  most_is_greatest are least r low most = record {
    bound = most.bound;
    reached = elim most.reached [
      | inr any ↦ any
      | inl is ↦
          let x = last_up_to.0 in
          let all : All (λ (y : Item). y.version ≤ℤ r) (x ∷ inner) = rw found_are at most.bound in
          let high : negsuc 0 ≤ℤ x.version =
          rw at_begin (value_has (λ w. negsuc 0 ≤ℤ w) (negsuc 0) bs range.begin (omega (arith, ints)) are.versions) in
          absurd (omega (arith, ints, low, is, high, All-head (λ (y : Item). y.version ≤ℤ r) x inner all))
    ];
  }

  -- the greatest version of them is the greatest value in the range
  module _ (are : AreBoundaries bs) (r : ℤ) (greatest : IsGreatest (λ x. x.version) r (from_last p (Some q) items)) where
    pub range_bound : (key : List ℕ) → Holds range key → value_at bs key ≤ℤ r
    range_bound key held = elim (above_or_not r (value_at bs key)) [
      | inl lt ↦
          let above = found are r key held lt in
          let le = rw above.3 at (greatest.bound above.0 above.1 above.2) in
          absurd (omega (arith, ints, le, above.4))
      | inr le ↦ le
    ]

    pub range_reached : (key : List ℕ) × IsBytes key × Holds range key × (value_at bs key ≡ r)
    range_reached =
        let s : ℤ = r -ℤ pos 1 in
        let near = Any-weaker (λ (x : Item). x.version ≡ r) (λ x. s <ℤ x.version) (λ x is. omega (arith, ints, is))
        (from_last p (Some q) items) greatest.reached in
        let above = answered are s near in
        (above.0, above.1, above.2, omega (arith, ints, above.3, range_bound above.0 above.2))
