-- The root of a tree, from which a search begins: the first key is empty.
use Rattle.std.proofs.Common.{ℕ, List, [], None, sym, subst, ◌∙◌, arith}
use Rattle.boundaries.specs.Heads.{IsCommonPrefixLen}
use Rattle.boundaries.specs.Position.{CanReach, CanSearch, IsFirstKnown}
use Rattle.boundaries.specs.Walk.{CanChange, CanChangeLeaf, CanChangeTree}
use Rattle.boundaries.specs.declared.tree.Tree.{Tree}
use Rattle.boundaries.proofs.Words.{Item, KeyBound, Keys, Store}
use Rattle.boundaries.proofs.HeadOrder.{describes_empty}
use Rattle.boundaries.proofs.KeyBytes.{known_bytes}

-- what is known of the first key
pub first_known : {store : Store} {bound : KeyBound} {height slot : ℕ} → CanReach store bound height slot → IsFirstKnown store bound slot 0
first_known {store} {bound} {height} {slot} can e there =
    let first = can.first e there in (
      first.1,
      λ text is. subst (λ t. IsCommonPrefixLen 0 t bound.key.now) (sym first.0 ∙ known_bytes store.keys e.key text is)
          (describes_empty 0 bound.key.now),
    )

-- a tree can be searched from its root
pub can_search_root : {store : Store} {bound : KeyBound} {height slot : ℕ} → CanReach store bound height slot
    → CanSearch store bound height slot 0
can_search_root can = record { searchable = can.searchable; known = first_known can }

-- A tree that can be changed can be from its root on.
pub root_can : {bound : KeyBound} {Wants : Keys → List Item → Type 0} {tree : Tree} → CanChangeTree bound Wants tree
    → CanChange tree.store.nodes tree.root.height tree.root.slot
root_can can = record {
  subtree = can.rooted.subtree;
  some = can.reach.searchable.some;
  branches = can.rooted.branches;
  distinct = can.rooted.distinct;
  keyless = can.rooted.keyless;
  room = omega (arith, can.room);
}

pub root_can_change : {bound : KeyBound} {Wants : Keys → List Item → Type 0} {tree : Tree} → CanChangeTree bound Wants tree
    → CanChangeLeaf bound Wants tree.store tree.root.height
    (record { slot = tree.root.slot; common_prefix_len = 0; following = None })
root_can_change can = record {
  changeable = root_can can;
  partitioned = can.reach.searchable.partitioned;
  headed = can.reach.searchable.headed;
  known = first_known can.reach;
  wanted = can.wanted;
  none_removed = can.none_removed;
}
