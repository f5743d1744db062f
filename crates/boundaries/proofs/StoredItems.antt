-- Items whose keys are stored, and what becomes of them where others come in their place.
use Rattle.std.proofs.Common.{◌≡◌, ℕ, ◌+◌, ◌≤◌, List, [], ◌∷◌, ◌++◌, length, get_or, None, is_some, option_map, unwrap_or, map, refl, ◌∙◌, ap, ap₂, subst, inl, inr, arith}
use Rattle.std.specs.Prelude.{nat_eq}
use Rattle.std.specs.List.{All, Contains, IsDistinct}
use Rattle.std.specs.FinMap as finite
use Rattle.std.proofs.lemmas.List.{length-map, map-append}
use Rattle.std.proofs.lemmas.List.Elements.{All-head, All-map, All-tail}
use Rattle.arena.specs.Arena.{IsLive, record_at}
use Rattle.boundaries.specs.Bound.{Keys, bytes_at}
use Rattle.boundaries.specs.Boundary.{Boundary, AreInOrder}
use Rattle.boundaries.specs.Item.{Item}
use Rattle.boundaries.specs.Store.{KeysStay}
use Rattle.boundaries.specs.Stored.{AreStored, boundary_of}
use Rattle.boundaries.specs.Walk.{items_of_tree}
use Rattle.boundaries.specs.declared.tree.Tree.{Tree}
use Rattle.boundaries.proofs.callers.Times.{times, distinct_if_once, none_or_some, once_cases, once_if_distinct, times_if_contains}
use Rattle.boundaries.proofs.Puts.{none_is_not_live}
use Rattle.boundaries.proofs.Unlinked.{AreParted, slots_of, slot_live, times_slots, value_of_one}

-- what items are seen as
abbrev pub boundaries_in : Keys → List Item → List Boundary
boundaries_in keys items = map (boundary_of keys) items

-- Each key is that of a live slot, no slot is used twice, and none is live beside those used.
pub record AreKept (keys : Keys) (items : List Item) : Type 0 where
  pub in_order : AreInOrder (boundaries_in keys items)
  pub live : All (λ x. IsLive keys x.key) items
  pub distinct : IsDistinct nat_eq (slots_of items)
  pub counted : finite.len keys.records ≡ length items

-- the items of a tree are
pub kept_items : {tree : Tree} {room : ℕ} → AreStored tree room → AreKept tree.store.keys (items_of_tree tree)
kept_items {tree} {room} s = record { in_order = s.in_order; live = s.live; distinct = s.distinct; counted = s.counted }

-- Items whose records are the same are the same boundaries.
pub boundaries_same : (old new : Keys) (xs : List Item) → All (λ x. record_at new x.key ≡ record_at old x.key) xs
    → boundaries_in new xs ≡ boundaries_in old xs
boundaries_same old new [] same = refl
boundaries_same old new (x ∷ xs) same =
    let e = All-head (λ (x : Item). record_at new x.key ≡ record_at old x.key) x xs same in
    let k : bytes_at new x.key ≡ bytes_at old x.key = ap (λ o. unwrap_or (option_map (λ r. r.key) o) []) e in
    let b : boundary_of new x ≡ boundary_of old x = ap (λ k. record { key = k; version = x.version }) k in
    ap₂ (λ b bs. b ∷ bs) b (boundaries_same old new xs (All-tail (λ (x : Item). record_at new x.key ≡ record_at old x.key) x xs same))

-- Some items go and others come: the keys of these were placed before, and the keys of those are released after.
module _ (old mid new : Keys) (was kept out added : List Item) (stored : AreKept old was) (parts : AreParted was kept out)
    (stay : KeysStay old mid) (released : (slot : ℕ) → ¬ Contains (slots_of out) slot → record_at new slot ≡ record_at mid slot)
    (fresh : All (λ x. record_at old x.key ≡ None) added) where
  -- what is kept was live, and its records stay
  kept_live : (s : ℕ) → 1 ≤ times s (slots_of kept) → IsLive old s
  kept_live s some = slot_live old was stored.live s (omega (arith, parts.each s, some))

  kept_mid : (s : ℕ) → 1 ≤ times s (slots_of kept) → record_at new s ≡ record_at mid s
  kept_mid s some =
      let once = once_if_distinct (slots_of was) stored.distinct s in
      released s (λ has. absurd (omega (arith, some, parts.each s, once, times_if_contains s (slots_of out) has)))

  kept_record : (s : ℕ) → 1 ≤ times s (slots_of kept) → record_at new s ≡ record_at old s
  kept_record s some = kept_mid s some ∙ stay s (kept_live s some)

  -- what comes wasn't live, and isn't among those that go
  out_live : (s : ℕ) → 1 ≤ times s (slots_of out) → IsLive old s
  out_live s some = slot_live old was stored.live s (omega (arith, parts.each s, some))

  is_fresh : (s : ℕ) → 1 ≤ times s (slots_of added) → record_at old s ≡ None
  is_fresh s some = fresh_slot added fresh s some
    where
      fresh_slot : (xs : List Item) → All (λ x. record_at old x.key ≡ None) xs → (s : ℕ) → 1 ≤ times s (slots_of xs) → record_at old s ≡ None
      fresh_slot [] a s some = absurd (omega arith)
      fresh_slot (x ∷ xs) a s some = elim (once_cases s x.key) [
        | inl same ↦ subst (λ s. record_at old s ≡ None) same.0 (All-head (λ (x : Item). record_at old x.key ≡ None) x xs a)
        | inr other ↦
            fresh_slot xs (All-tail (λ (x : Item). record_at old x.key ≡ None) x xs a) s (omega (arith, other.1))
      ]

  added_mid : (s : ℕ) → 1 ≤ times s (slots_of added) → record_at new s ≡ record_at mid s
  added_mid s some =
      released s (λ has. absurd (none_is_not_live (record_at old s) (is_fresh s some) (out_live s (times_if_contains s (slots_of out) has))))

  pub kept_boundaries : (xs : List Item) → ((s : ℕ) → 1 ≤ times s (slots_of xs) → 1 ≤ times s (slots_of kept))
      → boundaries_in new xs ≡ boundaries_in old xs
  kept_boundaries xs among =
      boundaries_same old new xs (λ k d lt. let s = (get_or xs k d).key in
      kept_record s (among s (value_of_one (λ (x : Item). x.key) xs k d lt)))

  pub added_boundaries : boundaries_in new added ≡ boundaries_in mid added
  added_boundaries =
      boundaries_same mid new added (λ k d lt. let s = (get_or added k d).key in
      added_mid s (value_of_one (λ (x : Item). x.key) added k d lt))

  -- the boundaries where the new items stand among those kept
  pub around_added : (front rest : List Item) → kept ≡ front ++ rest
      → boundaries_in new (front ++ (added ++ rest))
      ≡ boundaries_in old front ++ (boundaries_in mid added ++ boundaries_in old rest)
  around_added front rest is =
      let count = λ (s : ℕ). ap (λ xs. times s (slots_of xs)) is ∙ times_slots s front rest in
      map-append (boundary_of new) front (added ++ rest)
      ∙ ap₂ (λ xs ys. xs ++ ys) (kept_boundaries front (λ s some. omega (arith, count s, some)))
      (map-append (boundary_of new) added rest
      ∙ ap₂ (λ xs ys. xs ++ ys) added_boundaries (kept_boundaries rest (λ s some. omega (arith, count s, some))))

  -- the items that there are then
  module _ {now : List Item} (made : AreParted now kept added) where
    pub mid_record : (s : ℕ) → 1 ≤ times s (slots_of now) → record_at new s ≡ record_at mid s
    mid_record s some = elim (none_or_some (times s (slots_of kept))) [
      | inl none ↦ added_mid s (omega (arith, some, none, made.each s))
      | inr here ↦ kept_mid s here
    ]

    -- They are stored, where their boundaries are in order.
    pub now_kept : All (λ x. IsLive mid x.key) added → ((s : ℕ) → times s (slots_of added) ≤ 1)
        → finite.len mid.records ≡ finite.len old.records + length added
        → finite.len new.records + length (slots_of out) ≡ finite.len mid.records
        → AreInOrder (boundaries_in new now) → AreKept new now
    now_kept live distinct placed gone order = record {
      in_order = order;
      live = λ k d lt.
          let s = (get_or now k d).key in
          let here = value_of_one (λ (x : Item). x.key) now k d lt in
          elim (none_or_some (times s (slots_of kept))) [
            | inl none ↦ ap is_some (mid_record s here) ∙ slot_live mid added live s (omega (arith, here, none, made.each s))
            | inr some ↦ ap is_some (kept_record s some) ∙ kept_live s some
          ];
      distinct = distinct_if_once (slots_of now) (λ s. elim (none_or_some (times s (slots_of added))) [
        | inl none ↦ omega (arith, none, made.each s, parts.each s, once_if_distinct (slots_of was) stored.distinct s)
        | inr some ↦ elim (none_or_some (times s (slots_of kept))) [
          | inl none ↦ omega (arith, none, made.each s, distinct s)
          | inr here ↦ absurd (none_is_not_live (record_at old s) (is_fresh s some) (kept_live s here))
        ]
      ]);
      counted = omega (
        arith,
        placed,
        gone,
        stored.counted,
        parts.count,
        made.count,
        length-map out (λ (x : Item). x.key),
      );
    }

-- what goes may be released
module _ {keys : Keys} {was kept out : List Item} (stored : AreKept keys was) (parts : AreParted was kept out) where
  pub gone_live : All (IsLive keys) (slots_of out)
  gone_live = All-map (IsLive keys) (λ (x : Item). x.key) out (λ k d lt.
      let s = (get_or out k d).key in
      slot_live keys was stored.live s (omega (arith, parts.each s, value_of_one (λ (x : Item). x.key) out k d lt)))

  pub gone_distinct : IsDistinct nat_eq (slots_of out)
  gone_distinct = distinct_if_once (slots_of out) (λ s. omega (arith, parts.each s, once_if_distinct (slots_of was) stored.distinct s))
