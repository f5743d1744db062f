-- The first key of a child's entries is that of its entry.
use Rattle.std.proofs.Common.{◌≡◌, ℕ, zero, suc, ◌-◌, ◌≤◌, Bool, List, [], ◌∷◌, Some, length, get_or, slice_get, flat_map, All, refl, sym, ◌∙◌, ap, arith, ◌≤ℤ◌}
use Rattle.std.proofs.lemmas.Int.{ints}
use Rattle.std.proofs.lemmas.List.Concat.{flat_map_single}
use Rattle.std.proofs.lemmas.List.Elements.{All-cons, All-nil, All-head}
use Rattle.boundaries.proofs.Words.{Arena, header_at, NodeEntry, Node, KeyBytes, IsCommonPrefix, IsCommonPrefixAt, Item, Describes, item_of, entries_of, index_in, entries_at, items_in, IsChild, IsSubtree}
use Rattle.boundaries.proofs.Found.{IsFound, entries_read}
use Rattle.keys.proofs.callers.SomeElement.{Any-first}

-- The first of some entries has the first key of the items below them.
pub first_describes : (under : NodeEntry → List Item) (es : List NodeEntry) (e : NodeEntry) → slice_get es 0 ≡ Some e
    → All (λ e. Describes e (under e)) es → (x : Item) (xs : List Item) → flat_map under es ≡ x ∷ xs → e.key ≡ x.key
first_describes under [] e is describe x xs same = absurd (cc)
first_describes under (d ∷ es) e is describe x xs same =
    let t = All-head (λ e. Describes e (under e)) d es describe in
    cc (t.key, rw t.items_are at same)

-- the items of an entry of a node of this height: its own one, or those of its child
abbrev pub items_under : Arena Node → ℕ → NodeEntry → List Item
items_under nodes zero e = item_of e ∷ []
items_under nodes (suc height) e = items_in nodes height e.child

item_describes : (e : NodeEntry) → Describes e (item_of e ∷ [])
item_describes e =
    let bound = All-cons (λ (x : Item). x.version ≤ℤ e.version) (item_of e) [] (omega (arith, ints)) (All-nil _) in
    let has = Any-first (λ (x : Item). x.version ≡ e.version) (item_of e) [] refl in
    record { first = item_of e; others = []; items_are = refl; key = refl; greatest = record { bound = bound; reached = has } }

module _ (nodes : Arena Node) (least : ℕ) where
  pub node_items : (height slot : ℕ) → items_in nodes height slot ≡ flat_map (items_under nodes height) (entries_at nodes slot)
  node_items zero slot = sym (flat_map_single item_of (entries_at nodes slot))
  node_items (suc height) slot = refl

  pub node_describes : (height slot : ℕ) → IsSubtree nodes least height slot
      → All (λ e. Describes e (items_under nodes height e)) (entries_at nodes slot)
  node_describes zero slot s = λ i d lt. item_describes (get_or (entries_at nodes slot) i d)
  node_describes (suc height) slot s = λ i d lt. (s.2 i d lt).describes

  -- What is known of the key of an entry is known of that of its child's first entry, which is the same.
  pub knows_child : (height : ℕ) (e : NodeEntry) (child : ℕ) (bytes : KeyBytes) (is_below : ℕ → Bool) (target : List ℕ)
      (known : ℕ) → IsChild nodes least height (IsSubtree nodes least height) e → child ≡ e.child
      → IsCommonPrefix bytes is_below target known e.key → IsCommonPrefixAt bytes is_below target known (entries_at nodes child) 0
  knows_child height e child bytes is_below target known right same knows first at =
      let t = right.describes in
      let own = first_describes (items_under nodes height) (entries_at nodes e.child) first (rw same at at)
      (node_describes height e.child right.subtree) t.first t.others (sym (node_items height e.child) ∙ t.items_are) in
      rw (own, ← t.key) knows

-- What a search finds out at an entry holds of the first key of the child at which it goes on.
module _ (nodes : Arena Node) (least height slot : ℕ) (is_below : ℕ → Bool) (child : ℕ)
    (f : IsFound nodes least height slot is_below child) where
  pub known_below : (bytes : KeyBytes) (target : List ℕ) (known : ℕ) (header : Node) (index : ℕ)
      → header_at nodes slot ≡ Some header → index ≡ index_in is_below (entries_of header)
      → IsCommonPrefixAt bytes is_below target known (entries_of header) index
      → IsCommonPrefixAt bytes is_below target known (entries_at nodes child) 0
  known_below bytes target known header index h i k =
      let e = f.way.entry in
      let at : slice_get (entries_of header) index ≡ Some e = cc (i, f.way.is, entries_read nodes slot header _ h refl) in
      knows_child nodes least (height - 1) e child bytes is_below target known f.way.kept f.is (k e at)

  pub some_below : 1 ≤ least → 1 ≤ length (entries_at nodes child)
  some_below some = omega (arith, some, f.way.kept.filled, ap (λ s. length (entries_at nodes s)) f.is)
