-- A subtree in two arenas that agree on its slots.
use Rattle.std.proofs.Common.{◌≡◌, ℕ, zero, suc, inl, inr, ◌≤◌, List, [], ◌∷◌, get_or, map, is_some, refl, ap, subst, ◌∙◌, arith}
use Rattle.std.specs.List.{All, flat_map}
use Rattle.std.proofs.lemmas.List.Elements.{All-nil, All-cons, All-head, All-tail}
use Rattle.arena.specs.Arena.{Arena, IsLive, record_at}
use Rattle.boundaries.specs.declared.entry.NodeEntry.{NodeEntry}
use Rattle.boundaries.specs.declared.node.Node.{Node}
use Rattle.boundaries.specs.declared.walk.RaisedLeaf.{RaisedLeaf}
use Rattle.boundaries.specs.Item.{item_of}
use Rattle.boundaries.specs.Subtree.{entries_at, items_in, slots_in, IsChild, IsSubtree}
use Rattle.boundaries.specs.Children.{AreChildren, items_of, slots_of}
use Rattle.boundaries.specs.Walk.{IsRaisedIn}
use Rattle.boundaries.proofs.callers.Times.{none_or_some, once_cases, times, once_same, times-append}

pub entries_same : (a b : Arena Node) (slot : ℕ) → record_at b slot ≡ record_at a slot
    → entries_at b slot ≡ entries_at a slot
entries_same a b slot e = rw e refl

-- a subtree has its own slot
pub own_slot : (a : Arena Node) (height slot : ℕ) → 1 ≤ times slot (slots_in a height slot)
own_slot a zero slot = omega (arith, once_same slot)
own_slot a (suc height) slot = omega (arith, once_same slot)

-- the arenas agree on these slots
abbrev pub Agree : Arena Node → Arena Node → List ℕ → Type 0
Agree a b slots = (s : ℕ) → 1 ≤ times s slots → record_at b s ≡ record_at a s

-- what the entries of a node say of its children
abbrev pub IsRight : Arena Node → ℕ → ℕ → NodeEntry → Type 0
IsRight nodes least height e = IsChild nodes least height (IsSubtree nodes least height) e

module _ (a b : Arena Node) where
  pub agree_own : (height slot : ℕ) → Agree a b (slots_in a height slot) → entries_at b slot ≡ entries_at a slot
  agree_own height slot agree = entries_same a b slot (agree slot (own_slot a height slot))

  abbrev AgreeBelow : ℕ → NodeEntry → Type 0
  AgreeBelow height e = Agree a b (slots_in a height e.child)

  agree_each : (height : ℕ) (es : List NodeEntry) → Agree a b (slots_of a height es) → All (AgreeBelow height) es
  agree_each height [] agree = All-nil (AgreeBelow height)
  agree_each height (e ∷ es) agree =
      let both = λ (s : ℕ). times-append s (slots_in a height e.child) (slots_of a height es) in
      All-cons (AgreeBelow height) e es (λ s some. agree s (omega (arith, both s)))
      (agree_each height es (λ s some. agree s (omega (arith, both s))))

  -- that of the children of a node where they agree on its slots
  agree_below : (height slot : ℕ) → Agree a b (slots_in a (suc height) slot) → All (AgreeBelow height) (entries_at a slot)
  agree_below height slot agree = agree_each height (entries_at a slot) (λ s some. agree s (omega arith))

  each_same : {X : Type 0} (height : ℕ) (f g : ℕ → List X) → ((slot : ℕ) → Agree a b (slots_in a height slot) → g slot ≡ f slot)
      → (es : List NodeEntry) → All (AgreeBelow height) es → flat_map (λ e. g e.child) es ≡ flat_map (λ e. f e.child) es
  each_same height f g same [] agree = refl
  each_same height f g same (e ∷ es) agree =
      let later = each_same height f g same es (All-tail (AgreeBelow height) e es agree) in
      rw (same e.child (All-head (AgreeBelow height) e es agree), later) refl

  pub items_same : (height slot : ℕ) → Agree a b (slots_in a height slot) → items_in b height slot ≡ items_in a height slot
  items_same zero slot agree = ap (map item_of) (agree_own zero slot agree)
  items_same (suc height) slot agree =
      rw (agree_own (suc height) slot agree) (each_same height _ _ (items_same height) _ (agree_below height slot agree))

  pub slots_same : (height slot : ℕ) → Agree a b (slots_in a height slot) → slots_in b height slot ≡ slots_in a height slot
  slots_same zero slot agree = refl
  slots_same (suc height) slot agree =
      let below = each_same height _ _ (slots_same height) _ (agree_below height slot agree) in
      rw (agree_own (suc height) slot agree) (ap (λ xs. slot ∷ xs) below)

  pub raised_same : (leaf : RaisedLeaf) (height slot : ℕ) → Agree a b (slots_in a height slot) → IsRaisedIn a leaf height slot
      → IsRaisedIn b leaf height slot
  raised_same leaf zero slot agree there = there
  raised_same leaf (suc height) slot agree (k, e, within, is, h) =
      let below = rw is at (agree_below height slot agree k e within) in
      rw (agree_own (suc height) slot agree) (k, e, within, is, (h.0, raised_same leaf height e.child below h.1))

  pub live_same : (slot : ℕ) → record_at b slot ≡ record_at a slot → IsLive a slot → IsLive b slot
  live_same slot e live = ap is_some e ∙ live

  each_child : (least height : ℕ)
      → ((slot : ℕ) → Agree a b (slots_in a height slot) → IsSubtree a least height slot → IsSubtree b least height slot)
      → (es : List NodeEntry) → All (AgreeBelow height) es → AreChildren a least height es → AreChildren b least height es
  each_child least height below es agree all = λ k d within.
      let same = agree k d within in
      let child = all k d within in
      record {
        filled = rw (agree_own height (get_or es k d).child same) child.filled;
        subtree = below (get_or es k d).child same child.subtree;
        describes = rw (items_same height (get_or es k d).child same) child.describes;
      }

  pub subtree_same : (least height slot : ℕ) → Agree a b (slots_in a height slot) → IsSubtree a least height slot
      → IsSubtree b least height slot
  subtree_same least zero slot agree h = live_same slot (agree slot (own_slot a zero slot)) h
  subtree_same least (suc height) slot agree h =
      let e = agree_own (suc height) slot agree in (
        live_same slot (agree slot (own_slot a (suc height) slot)) h.0,
        rw e h.1,
        rw e (each_child least height (subtree_same least height) _ (agree_below height slot agree) h.2),
      )

  -- the children of entries
  module _ (height : ℕ) (es : List NodeEntry) (agree : Agree a b (slots_of a height es)) where
    pub items_of_same : items_of b height es ≡ items_of a height es
    items_of_same = each_same height _ _ (items_same height) es (agree_each height es agree)

    pub slots_of_same : slots_of b height es ≡ slots_of a height es
    slots_of_same = each_same height _ _ (slots_same height) es (agree_each height es agree)

    pub children_same : (least : ℕ) → AreChildren a least height es → AreChildren b least height es
    children_same least = each_child least height (subtree_same least height) es (agree_each height es agree)

-- the nodes of subtrees are live
module _ (a : Arena Node) (least : ℕ) where
  live_of : (height : ℕ)
      → ((slot : ℕ) → IsSubtree a least height slot → (s : ℕ) → 1 ≤ times s (slots_in a height slot) → IsLive a s)
      → (es : List NodeEntry) → AreChildren a least height es → (s : ℕ) → 1 ≤ times s (slots_of a height es) → IsLive a s
  live_of height each [] all s some = absurd (omega arith)
  live_of height each (e ∷ es) all s some = elim (none_or_some (times s (slots_in a height e.child))) [
    | inl none ↦ live_of height each es (All-tail (IsRight a least height) e es all) s
        (omega (arith, times-append s (slots_in a height e.child) (slots_of a height es)))
    | inr here ↦ each e.child (All-head (IsRight a least height) e es all).subtree s here
  ]

  pub live_in : (height slot : ℕ) → IsSubtree a least height slot → (s : ℕ) → 1 ≤ times s (slots_in a height slot) → IsLive a s
  live_in zero slot h s some = elim (once_cases s slot) [
    | inl same ↦ subst (IsLive a) same.0 h
    | inr other ↦ absurd (omega (arith, other.1))
  ]
  live_in (suc height) slot h s some = elim (once_cases s slot) [
    | inl same ↦ subst (IsLive a) same.0 h.0
    | inr other ↦ live_of height (live_in height) (entries_at a slot) h.2 s (omega (arith, other.1))
  ]

  pub live_children : (height : ℕ) (es : List NodeEntry) → AreChildren a least height es → (s : ℕ)
      → 1 ≤ times s (slots_of a height es) → IsLive a s
  live_children height = live_of height (live_in height)

  pub below_of : (height : ℕ) (es : List NodeEntry) → AreChildren a least height es → All (λ e. IsSubtree a least height e.child) es
  below_of height es all = λ k d within. (all k d within).subtree
