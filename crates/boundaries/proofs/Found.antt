-- The child at which a bound goes on, as the code finds it.
use Rattle.std.proofs.Common.{◌≡◌, ℕ, suc, ◌-◌, ◌<◌, Bool, List, [], ◌∷◌, length, Some, option_map, unwrap_or, map, slice_get, sym, ◌∙◌, ap, subst, inl, inr, arith}
use Rattle.std.proofs.lemmas.List.{get_or-map, length-map}
use Rattle.boundaries.proofs.Words.{Arena, header_at, NodeEntry, Node, Item, item_of, entries_of, IsPartitioned, index_in, leaf_in, entries_at, items_in, IsSubtree}
use Rattle.boundaries.proofs.callers.Partitions.{Falls, Falls-below_from, IsPartitioned-from_falls}
use Rattle.boundaries.proofs.Ways.{IsWay, way}

-- the entries at a slot are those of the header that the code has read
pub entries_read : (nodes : Arena Node) (slot : ℕ) (header : Node) (es : List NodeEntry)
    → header_at nodes slot ≡ Some header → es ≡ entries_of header → entries_at nodes slot ≡ es
entries_read nodes slot header es h e = ap (λ o. unwrap_or (option_map entries_of o) []) h ∙ sym e

pub partitioned-entries : (p : Item → Bool) (es : List NodeEntry) → IsPartitioned p (map item_of es)
    → IsPartitioned (λ e. p (item_of e)) es
partitioned-entries p es c =
    IsPartitioned-from_falls (λ (e : NodeEntry). p (item_of e)) es (falls es (Falls-below_from p (map item_of es) c))
  where
    falls : (es : List NodeEntry) → Falls p (map item_of es) → Falls (λ e. p (item_of e)) es
    falls [] f = tt
    falls (e ∷ es) (inl h) = inl (h.0, falls es h.1)
    falls (e ∷ es) (inr h) =
        let fails = λ (k : ℕ) (d : NodeEntry) (w : k < length es). rw (get_or-map item_of es k d (item_of d) w) at
        (h.1 k (item_of d) (omega (arith, length-map es item_of))) in
        inr (h.0, fails)

module _ (nodes : Arena Node) (least height slot : ℕ) (is_below : ℕ → Bool) where
  -- The child is that of the entry that the bound finds.
  pub record IsFound (child : ℕ) : Type 0 where
    pub lower : suc (height - 1) ≡ height
    pub way : IsWay nodes least (height - 1) slot is_below
    pub is : child ≡ way.entry.child

  -- what the bound says of the node, at any height above the leaves
  way_at : (height ≡ 0 → ⊥) → IsSubtree nodes least height slot → IsPartitioned (λ x. is_below x.key) (items_in nodes height slot)
      → IsWay nodes least (height - 1) slot is_below
  way_at some s c =
      let lower : height ≡ suc (height - 1) = omega arith in
      way nodes least (height - 1) slot is_below (subst (λ n. IsSubtree nodes least n slot) lower s)
      (subst (λ n. IsPartitioned (λ (x : Item). is_below x.key) (items_in nodes n slot)) lower c)

  module _ (header : Node) (es : List NodeEntry) where
    pub found : (index child : ℕ) → (height ≡ 0 → ⊥) → IsSubtree nodes least height slot
        → IsPartitioned (λ x. is_below x.key) (items_in nodes height slot) → header_at nodes slot ≡ Some header
        → es ≡ entries_of header → index ≡ index_in is_below es
        → ((e : NodeEntry) → slice_get es index ≡ Some e → child ≡ e.child) → IsFound child
    found index child some s c h e i leads =
        let w = way_at some s c in
        let at : slice_get es index ≡ Some w.entry = rw (i, ← entries_read nodes slot header es h e) w.is in
        record { lower = omega arith; way = w; is = leads w.entry at }

    -- The entries of a node above the leaves, as the code has read them, are partitioned.
    pub read_partitioned : (height ≡ 0 → ⊥) → IsSubtree nodes least height slot
        → IsPartitioned (λ x. is_below x.key) (items_in nodes height slot) → header_at nodes slot ≡ Some header
        → es ≡ entries_of header → IsPartitioned (λ e. is_below e.key) es
    read_partitioned some s c h e = rw (entries_read nodes slot header es h e) at (way_at some s c).entries

  module _ (child : ℕ) (f : IsFound child) where
    pub found_subtree : IsSubtree nodes least (height - 1) child
    found_subtree = rw f.is f.way.kept.subtree

    pub found_partitioned : IsPartitioned (λ x. is_below x.key) (items_in nodes (height - 1) child)
    found_partitioned = rw f.is f.way.partitioned

    pub found_leaf : (leaf : ℕ) → leaf ≡ leaf_in nodes (height - 1) child is_below → leaf ≡ leaf_in nodes height slot is_below
    found_leaf leaf e =
        subst (λ n. leaf ≡ leaf_in nodes n slot is_below) f.lower
        (subst (λ s. leaf ≡ leaf_in nodes (height - 1) s is_below) (f.is ∙ f.way.child) e)
