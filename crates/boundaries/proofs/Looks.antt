-- A look at the items before a bound, of those before another bound the last alone, below a node.
use Rattle.std.proofs.Common.{rules, ◌≡◌, ℕ, zero, suc, ◌+◌, ◌-◌, ◌<◌, ◌≤◌, Bool, true, List, ◌∷◌, ◌++◌, take, drop, Some, length, get_or, filter, flat_map, map, All, sym, refl, ◌∙◌, ap, subst, arith, slice_range}
use Rattle.std.proofs.lemmas.Grind.{flat_map-append}
use Rattle.std.proofs.lemmas.List.{drop-map, length-map, take-map}
use Rattle.boundaries.proofs.Words.{Arena, header_at, key_at, is_below, KeyBound, KeyBytes, Store, NodeEntry, Node, Item, Describes, item_of, entries_of, IsPartitioned, entries_at, items_in, IsChild, IsSubtree, CanFind, CanStep, IsCommonPrefixAt, IsSearchable}
use Rattle.boundaries.proofs.Ways.{around_element, children_partitioned, index_inside}
use Rattle.boundaries.proofs.Found.{partitioned-entries, entries_read, read_partitioned}
use Rattle.boundaries.proofs.Headed.{headed_at}
use Rattle.boundaries.proofs.Placing.{entries_from_header}
use Rattle.boundaries.proofs.Keys.{filter-items}
use Rattle.boundaries.proofs.FromLast.{from_last_of, from_last_range, fewer_before}

-- a node with its entries, and two bounds through its items
pub record IsLook (nodes : Arena Node) (least height slot : ℕ) (f t : ℕ → Bool) (es : List NodeEntry)
    (begin end : ℕ) : Type 0 where
  pub subtree : IsSubtree nodes least height slot
  pub from : IsPartitioned (λ x. f x.key) (items_in nodes height slot)
  pub to : IsPartitioned (λ x. t x.key) (items_in nodes height slot)
  pub nested : (key : ℕ) → f key ≡ true → t key ≡ true
  pub read : entries_at nodes slot ≡ es
  pub begin_is : begin ≡ length (filter (λ e. f e.key) es)
  pub end_is : end ≡ length (filter (λ e. t e.key) es)

-- The entries are partitioned as the items are.
pub look_bound : (nodes : Arena Node) (least height slot : ℕ) (is_below : ℕ → Bool) (header : Node)
    (es : List NodeEntry) → IsSubtree nodes least height slot
    → IsPartitioned (λ x. is_below x.key) (items_in nodes height slot) → header_at nodes slot ≡ Some header
    → es ≡ entries_of header → IsPartitioned (λ e. is_below e.key) es
look_bound nodes least zero slot is_below header es s c h e =
    let mapped : IsPartitioned (λ (x : Item). is_below x.key) (map item_of (entries_at nodes slot)) = c in
    partitioned-entries (λ (x : Item). is_below x.key) es (rw (entries_read nodes slot header es h e) at mapped)
look_bound nodes least (suc height) slot is_below header es s c h e =
    read_partitioned nodes least (suc height) slot is_below header es (λ z. omega arith) s c h e

-- A node that the code has read can be searched.
pub can_find_at : (store : Store) (bound : KeyBound) {least height slot : ℕ} {node : Node}
    → IsSearchable (key_at store.keys) (is_below store.keys bound) store.nodes least height slot
    → header_at store.nodes slot ≡ Some node → CanFind store.keys bound node
can_find_at store bound {least} {height} {slot} {node} can header =
    let read = entries_from_header store.nodes slot node header in
    record {
      headed = headed_at (key_at store.keys) store.nodes slot node can.headed header;
      partitioned = look_bound store.nodes least height slot (is_below store.keys bound) node _ can.subtree can.partitioned header refl;
      some = rw read at can.some;
    }

pub can_step_at : (store : Store) (bound : KeyBound) {least height slot known : ℕ} {node : Node}
    → IsSearchable (key_at store.keys) (is_below store.keys bound) store.nodes least height slot
    → header_at store.nodes slot ≡ Some node
    → IsCommonPrefixAt (key_at store.keys) (is_below store.keys bound) bound.key.now known (entries_at store.nodes slot) 0
    → CanStep store.keys bound node known
can_step_at store bound {least} {height} {slot} {known} {node} can header knows = record {
  can_find = can_find_at store bound can header;
  known = rw (entries_from_header store.nodes slot node header) at knows;
}

module _ (nodes : Arena Node) (least height slot : ℕ) (f t : ℕ → Bool) (es : List NodeEntry)
    (begin end : ℕ) (k : IsLook nodes least height slot f t es begin end) where
  abbrev p : Item → Bool
  p x = f x.key

  abbrev q : Item → Bool
  q x = t x.key

  pub look_ordered : begin ≤ end
  look_ordered = omega (arith, k.begin_is, k.end_is, fewer_before _ _ (λ (e : NodeEntry). k.nested e.key) es)

  -- at a leaf
  pub leaf_from_last : height ≡ 0 → (first : ℕ) → first ≡ begin - 1
      → from_last_of p q (items_in nodes height slot) ≡ map item_of (slice_range es first end)
  leaf_from_last z first fi =
      let at : items_in nodes height slot ≡ map item_of es = ap (λ n. items_in nodes n slot) z ∙ ap (map item_of) k.read in
      let count = λ (b : ℕ → Bool). ap length (filter-items (λ (x : Item). b x.key) es)
      ∙ length-map (filter (λ (e : NodeEntry). b e.key) es) item_of in
      ap (from_last_of p q) at
      ∙ from_last_range p q (map item_of es) first end (rw at at k.to) (omega (arith, look_ordered, fi))
      (omega (arith, fi, k.begin_is, count f)) (omega (arith, k.end_is, count t))
      ∙ simp (drop-map item_of, take-map item_of)

  module _ (some : height ≡ 0 → ⊥) where
    abbrev pub below : NodeEntry → List Item
    below e = items_in nodes (height - 1) e.child

    lower : suc (height - 1) ≡ height
    lower = omega arith

    node : (1 ≤ length es) × All (IsChild nodes least (height - 1) (IsSubtree nodes least (height - 1))) es
    node = let s = subst (λ n. IsSubtree nodes least n slot) (sym lower) k.subtree in rw (← k.read) (s.1, s.2)

    pub look_answers : All (λ e. Describes e (below e)) es
    look_answers = λ i e inside. (node.1 i e inside).describes

    pub look_items : items_in nodes height slot ≡ flat_map below es
    look_items = ap (λ n. items_in nodes n slot) (sym lower) ∙ ap (flat_map below) k.read

    pub items_partitioned : (is_below : ℕ → Bool) → IsPartitioned (λ x. is_below x.key) (items_in nodes height slot)
        → IsPartitioned (λ x. is_below x.key) (flat_map below es)
    items_partitioned is_below c = rw (← look_items) c

    pub last_inside : end - 1 < length es
    last_inside = omega (arith, index_inside t below es node.0, k.end_is)

    pub first_inside : begin - 1 < length es
    first_inside = omega (arith, last_inside, look_ordered)

    -- what is asked of the search in a child
    module _ (i : ℕ) (e : NodeEntry) (inside : i < length es) (is : e ≡ get_or es i e) where
      pub child_is : IsChild nodes least (height - 1) (IsSubtree nodes least (height - 1)) e
      child_is = rw is (node.1 i e inside)

      -- its items stand between those of the children before it and those of the children behind it
      pub around_child : items_in nodes height slot
          ≡ flat_map below (take i es) ++ (below e ++ flat_map below (drop (i + 1) es))
      around_child =
          rw (← is) at (look_items ∙ ap (flat_map below) (around_element es i e inside)
          ∙ flat_map-append below (take i es) (get_or es i e ∷ drop (i + 1) es))

      pub child_partitioned : (is_below : ℕ → Bool) → IsPartitioned (λ x. is_below x.key) (items_in nodes height slot)
          → IsPartitioned (λ x. is_below x.key) (below e)
      child_partitioned is_below c = rw is (children_partitioned is_below below es (items_partitioned is_below c) i e inside)

      pub child_reached : {bytes : KeyBytes} {is_below : ℕ → Bool} → IsSearchable bytes is_below nodes least height slot → 1 ≤ least
          → IsSearchable bytes is_below nodes least (height - 1) e.child
      child_reached can least_some =
          let some : 1 ≤ length (entries_at nodes e.child) = omega (arith, least_some, child_is.filled) in
          search (rules, child_is.subtree, some, child_partitioned _ can.partitioned, can.headed)
