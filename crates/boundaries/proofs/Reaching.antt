-- The leaf that a bound finds: the items before it and behind it.
use Rattle.std.proofs.Common.{rules, ◌≡◌, ℕ, zero, suc, Bool, true, false, ◌++◌, map, All, sym, append_assoc, append-nil}
use Rattle.std.proofs.lemmas.List.Elements.{All-nil, All-append}
use Rattle.boundaries.proofs.Words.{Arena, Node, Item, item_of, IsPartitioned, child_in, leaf_in, before_leaf, after_leaf, entries_at, items_in, IsSubtree}
use Rattle.boundaries.proofs.Ways.{way}

module _ (nodes : Arena Node) where
  -- what the leaf that a bound finds says of the items of the subtree
  pub record IsFoundLeaf (height slot leaf : ℕ) (is_below : ℕ → Bool) : Type 0 where
    pub items : items_in nodes height slot ≡ before_leaf nodes height slot is_below
        ++ (map item_of (entries_at nodes leaf) ++ after_leaf nodes height slot is_below)
    pub before : All (λ x. is_below x.key ≡ true) (before_leaf nodes height slot is_below)
    pub following : All (λ x. is_below x.key ≡ false) (after_leaf nodes height slot is_below)

  pub found_leaf_in : (least height slot : ℕ) (is_below : ℕ → Bool) → IsSubtree nodes least height slot
      → IsPartitioned (λ x. is_below x.key) (items_in nodes height slot)
      → IsFoundLeaf height slot (leaf_in nodes height slot is_below) is_below
  found_leaf_in least zero slot is_below s c =
      let items = sym (append-nil (map item_of (entries_at nodes slot))) in
      search (rules, items, All-nil (λ (x : Item). is_below x.key ≡ true), All-nil (λ (x : Item). is_below x.key ≡ false))
  found_leaf_in least (suc height) slot is_below s c =
      let w = way nodes least height slot is_below s c in
      let child = child_in is_below (entries_at nodes slot) in
      let f = found_leaf_in least height child is_below (rw (← w.child) w.kept.subtree) (rw (← w.child) w.partitioned) in
      record {
        items = rw (w.items, w.child, f.items) (simp append_assoc);
        before = All-append (λ (x : Item). is_below x.key ≡ true) _ _ w.before f.before;
        following = All-append (λ (x : Item). is_below x.key ≡ false) _ _ f.following w.following;
      }
