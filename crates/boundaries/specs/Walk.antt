-- A walk to a leaf, what it changes there, and what it gives. This project's own.
use Rattle.std.specs.Prelude.{◌≡◌, ◌≤◌, ◌<◌, ◌+◌, ◌⊎◌, ◌++◌, ℕ, zero, suc, ℤ, Bool, true, false, List, [], length, nat_eq, Option, None, Some, IfSome}
use Rattle.std.specs.List.{All, Any, IsDistinct}
use Rattle.std.specs.FinMap as map
use Rattle.arena.specs.Arena.{Arena, spare_of}
use Rattle.boundaries.specs.declared.descent.Position.{Position}
use Rattle.boundaries.specs.declared.key_bound.KeyBound.{KeyBound}
use Rattle.boundaries.specs.declared.node.Node.{Node}
use Rattle.boundaries.specs.declared.node.TheConstants.{HALF_FULL}
use Rattle.boundaries.specs.declared.store.Store.{Store}
use Rattle.boundaries.specs.declared.tree.Tree.{Tree}
use Rattle.boundaries.specs.declared.walk.LeafOutcome.{LeafOutcome}
use Rattle.boundaries.specs.declared.walk.RaisedLeaf.{RaisedLeaf}
use Rattle.boundaries.specs.declared.walk.LeafOutcome.TheVariants.{Same, Raised, Changed, Split}
use Rattle.boundaries.specs.Bound.{Keys, is_below}
use Rattle.boundaries.specs.Children.{slots_with, Changes, IsKeyless}
use Rattle.boundaries.specs.Item.{Item}
use Rattle.boundaries.specs.Path.{IsPartitioned, first_key}
use Rattle.boundaries.specs.Position.{CanReach, IsFirstKnown}
use Rattle.boundaries.specs.Store.{AreHeaded, IsRooted, KeysStay}
use Rattle.boundaries.specs.Subtree.{entries_at, items_in, slots_in, IsSubtree}

-- The slot of the right neighbour that a subtree was split from, if it was.
abbrev pub added_by : LeafOutcome → Option ℕ
added_by Same = None
added_by (Raised leaf) = None
added_by Changed = None
added_by (Split slot) = Some slot

-- The first key stays. An item of this version is there, and the versions of all others were there before.
pub record IsRaised (version : ℤ) (was now : List Item) : Type 0 where
  pub first : first_key None now ≡ first_key None was
  pub there : Any (λ x. x.version ≡ version) now
  pub others : All (λ x. (x.version ≡ version) ⊎ Any (λ w. x.version ≡ w.version) was) now

-- Items of which those of one leaf were changed: the leaf that has the last item below the bound. What is given of the leaf's is a
-- relation of three: the key of the first item after them, what they were, and what they are.
pub record IsChangedWithin (is_below : ℕ → Bool) (Gives : Option ℕ → List Item → List Item → Type 0) (next : Option ℕ)
    (was now : List Item) : Type 0 where
  pub before : List Item
  pub leaf : List Item
  pub changed : List Item
  pub following : List Item
  pub was_is : was ≡ before ++ (leaf ++ following)
  pub now_is : now ≡ before ++ (changed ++ following)
  pub items_below : All (λ x. is_below x.key ≡ true) before
  pub failing : All (λ x. is_below x.key ≡ false) following
  pub found : Any (λ x. is_below x.key ≡ true) leaf
  pub gives : Gives (first_key next following) leaf changed

-- A subtree that may be changed: it is right, and there are as many spare slots as a change takes.
pub record CanChange (nodes : Arena Node) (height slot : ℕ) : Type 0 where
  pub subtree : IsSubtree nodes HALF_FULL height slot
  pub some : 1 ≤ length (entries_at nodes slot)
  pub branches : 1 ≤ height → 2 ≤ length (entries_at nodes slot)
  pub distinct : IsDistinct nat_eq (slots_in nodes height slot)
  pub keyless : IsKeyless nodes
  pub room : height < spare_of nodes 0

-- A subtree of which a leaf may be changed: the bound is sought there, the items are as is wanted, and none is removed yet.
pub record CanChangeLeaf (bound : KeyBound) (Wants : Keys → List Item → Type 0) (store : Store) (height : ℕ) (position : Position)
    : Type 0 where
  pub changeable : CanChange store.nodes height position.slot
  pub partitioned : IsPartitioned (λ x. is_below store.keys bound x.key) (items_in store.nodes height position.slot)
  pub headed : AreHeaded store
  pub known : IsFirstKnown store bound position.slot position.common_prefix_len
  pub wanted : Wants store.keys (items_in store.nodes height position.slot)
  pub none_removed : store.removed.items ≡ []

-- A leaf below the node at a slot, each entry above which has its version.
abbrev pub IsRaisedIn : Arena Node → RaisedLeaf → ℕ → ℕ → Type 0
IsRaisedIn nodes leaf zero slot = slot ≡ leaf.slot
IsRaisedIn nodes leaf (suc height) slot =
    Any (λ e. (e.version ≡ leaf.version) × IsRaisedIn nodes leaf height e.child) (entries_at nodes slot)

-- that of a tree, if there is one
abbrev pub IsRaisedInTree : Arena Node → ℕ → ℕ → Option RaisedLeaf → Type 0
IsRaisedInTree nodes root height raised = IfSome raised (λ leaf. IsRaisedIn nodes leaf height root)

-- The first key stays, and an item came into this leaf. A leaf has as many entries as a node must have, and a node above lost none.
pub record IsRaisedAt (old new : Arena Node) (height slot : ℕ) (leaf : RaisedLeaf) : Type 0 where
  pub there : IsRaisedIn new leaf height slot
  pub items : IsRaised leaf.version (items_in old height slot) (items_in new height slot)
  pub filled : height ≡ 0 → HALF_FULL ≤ length (entries_at new slot)
  pub no_fewer : 1 ≤ height → length (entries_at old slot) ≤ length (entries_at new slot)

-- A subtree once it was changed, and the right neighbour that it was split from, if it was.
pub record IsChanged (old new : Store) (height slot : ℕ) (outcome : LeafOutcome) : Type 0 where
  pub same : outcome ≡ Same → new ≡ old
  pub raised : (leaf : RaisedLeaf) → outcome ≡ Raised leaf → IsRaisedAt old.nodes new.nodes height slot leaf
  pub subtree : IsSubtree new.nodes HALF_FULL height slot
  pub neighbour : IfSome (added_by outcome) (λ added. IsSubtree new.nodes HALF_FULL height added)
  pub filled : IfSome (added_by outcome) (λ added. (HALF_FULL ≤ length (entries_at new.nodes slot))
      × (HALF_FULL ≤ length (entries_at new.nodes added)))
  pub few_less : 1 ≤ height → added_by outcome ≡ None
      → length (entries_at old.nodes slot) ≤ length (entries_at new.nodes slot) + 1
  pub changes : Changes old.nodes new.nodes (slots_in old.nodes height slot) (slots_with new.nodes height slot (added_by outcome))
  pub taken : spare_of old.nodes 0 ≤ spare_of new.nodes 0 + (height + 1)
  pub headed : AreHeaded new
  pub keys : KeysStay old.keys new.keys

-- the items of a tree
abbrev pub items_of_tree : Tree → List Item
items_of_tree tree = items_in tree.store.nodes tree.root.height tree.root.slot

-- A tree of which a leaf may be changed: the bound goes through the items, which are as is wanted, and none is removed yet.
pub record CanChangeTree (bound : KeyBound) (Wants : Keys → List Item → Type 0) (tree : Tree) : Type 0 where
  pub low : tree.root.height < 63
  pub rooted : IsRooted tree.store.nodes tree.root.slot tree.root.height
  pub room : tree.root.height + 1 < spare_of tree.store.nodes 0
  pub reach : CanReach tree.store bound tree.root.height tree.root.slot
  pub wanted : Wants tree.store.keys (items_of_tree tree)
  pub none_removed : tree.store.removed.items ≡ []

-- A tree after a change of its nodes: as many of them are live and spare as before. No leaf is remembered.
pub record IsNewTree (old new : Store) (root height : ℕ) (raised : Option RaisedLeaf) : Type 0 where
  pub rooted : IsRooted new.nodes root height
  pub spare : spare_of new.nodes 0 + map.len new.nodes.records ≡ spare_of old.nodes 0 + map.len old.nodes.records
  pub headed : AreHeaded new
  pub raised_is : IsRaisedInTree new.nodes root height raised

-- a tree of which a leaf was changed
pub record IsChangedTree (bound : KeyBound) (Gives : Option ℕ → List Item → List Item → Type 0) (old new : Tree) : Type 0 where
  pub items : IsChangedWithin (is_below old.store.keys bound) Gives None (items_of_tree old) (items_of_tree new)
  pub tree : IsNewTree old.store new.store new.root.slot new.root.height new.raised
  pub keys : KeysStay old.store.keys new.store.keys
