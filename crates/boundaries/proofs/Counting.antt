-- How many nodes a tree of so many items has, and how high it is.
use Rattle.std.proofs.Common.{◌≡◌, ℕ, zero, suc, ◌+◌, ◌-◌, ◌*◌, ◌^◌, ◌<◌, ◌≤◌, inl, inr, List, [], ◌∷◌, length, ap, arith, length-append, lit<}
use Rattle.std.proofs.lemmas.List.{length-map}
use Rattle.std.proofs.Math.Nat.{mul-le-mul_left, pow-le-pow_right, two-pow-succ}
use Rattle.std.proofs.lemmas.Bool.{cases_lt}
use Rattle.std.proofs.lemmas.List.Elements.{All-head, All-tail}
use Rattle.boundaries.proofs.Words.{Arena, spare_of, NodeEntry, Node, item_of, AreChildren, items_of, slots_of, entries_at, items_in, slots_in, IsSubtree, IsTree, HALF_FULL}
use Rattle.boundaries.proofs.Frames.{IsRight}
use Rattle.boundaries.proofs.LeafChange.{root_some}

module _ (nodes : Arena Node) (least : ℕ) where
  -- where each child has so many items for each node, and so many more
  fill_each : (k j height : ℕ) → ((slot : ℕ) → IsSubtree nodes least height slot → least ≤ length (entries_at nodes slot)
      → k * length (slots_in nodes height slot) + j ≤ length (items_in nodes height slot))
      → (es : List NodeEntry) → AreChildren nodes least height es
      → k * length (slots_of nodes height es) + j * length es ≤ length (items_of nodes height es)
  fill_each k j height each [] all = omega arith
  fill_each k j height each (e ∷ es) all =
      let own = All-head (IsRight nodes least height) e es all in
      let later = fill_each k j height each es (All-tail (IsRight nodes least height) e es all) in
      let items = length-append (items_in nodes height e.child) (items_of nodes height es) in
      let slots = ap (λ n. k * n) (length-append (slots_in nodes height e.child) (slots_of nodes height es)) in
      omega (arith, each e.child own.subtree own.filled)

  -- Each child takes the place of k items, and has one more.
  few_nodes : (k : ℕ) → k + 1 ≡ least → (height slot : ℕ) → IsSubtree nodes least height slot
      → k * length (slots_in nodes height slot) + length (entries_at nodes slot) ≤ length (items_in nodes height slot) + k
  few_nodes k one_less zero slot s = omega (arith, length-map (entries_at nodes slot) item_of)
  few_nodes k one_less (suc height) slot s =
      omega (arith, fill_each k 1 height (λ t h filled. omega (arith, few_nodes k one_less height t h)) _ s.2)

  -- Each level has twice as many items.
  many_items : 2 ≤ least → (height slot : ℕ) → IsSubtree nodes least height slot → 2 ≤ length (entries_at nodes slot)
      → 2 * 2 ^ height ≤ length (items_in nodes height slot)
  many_items two zero slot s several = omega (arith, length-map (entries_at nodes slot) item_of)
  many_items two (suc height) slot s several =
      let bound = 2 * 2 ^ height in
      let each = fill_each 0 bound height (λ t h filled. omega (arith, many_items two height t h (omega arith))) _ s.2 in
      let power : 2 ^ suc height ≡ 2 ^ height + 2 ^ height = two-pow-succ height in
      omega (arith, each, power, mul-le-mul_left bound several)

-- a tree that a machine can count is lower than 63
pub low : (nodes : Arena Node) (root height len room : ℕ) → IsTree nodes root height len room
    → len < 2 ^ 64 → height < 63
low nodes root height len room t fits = elim (cases_lt height 63) [
  | inl less ↦ less
  | inr high ↦
      let many = many_items nodes HALF_FULL (omega arith) height root t.rooted.subtree (t.rooted.branches (omega arith)) in
      let power : 2 ^ 63 ≤ 2 ^ height = pow-le-pow_right (lit< tt) high in
      absurd (omega (arith, many, power, t.counted))
]

-- enough nodes are spare for a change
pub enough_spare : (nodes : Arena Node) (root height len room : ℕ) → IsTree nodes root height len room
    → 66 ≤ spare_of nodes 0
enough_spare nodes root height len room t = elim (cases_lt (spare_of nodes 0) 66) [
  | inl few ↦
      let count = few_nodes nodes HALF_FULL (HALF_FULL - 1) (omega arith) height root t.rooted.subtree in
      let filled = root_some nodes root height len room t in
      let reserved = rw t.rooted.linked at t.reserved in
      let less : spare_of nodes 0 ≤ 65 = omega arith in
      absurd (omega (arith, count, filled, reserved, t.counted, t.within, mul-le-mul_left (HALF_FULL - 1) less))
  | inr many ↦ many
]
