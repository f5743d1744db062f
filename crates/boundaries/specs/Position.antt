-- The search for the leaf of a tree where a bound goes through its items. This project's own.
use Rattle.std.specs.Prelude.{◌≡◌, ◌≤◌, ◌+◌, ℕ, Bool, true, [], drop, length, map, slice_get, Some}
use Rattle.arena.specs.Arena.{Arena, key_at}
use Rattle.boundaries.specs.declared.descent.Position.{Position}
use Rattle.boundaries.specs.declared.entry.NodeEntry.{NodeEntry}
use Rattle.boundaries.specs.declared.key_bound.KeyBound.{KeyBound}
use Rattle.boundaries.specs.declared.node.Node.{Node}
use Rattle.boundaries.specs.declared.node.TheConstants.{HALF_FULL}
use Rattle.boundaries.specs.declared.node.step.Step.{Step}
use Rattle.boundaries.specs.declared.store.Store.{Store}
use Rattle.boundaries.specs.Bound.{bytes_at, is_below}
use Rattle.boundaries.specs.Heads.{AllAreHeads, IsCommonPrefixAt, KeyBytes}
use Rattle.boundaries.specs.Item.{item_of}
use Rattle.boundaries.specs.Node.{all_heads_of, entries_of}
use Rattle.boundaries.specs.Path.{IsPartitioned, leaf_in, after_leaf, first_key}
use Rattle.boundaries.specs.Subtree.{entries_at, items_in, IsSubtree}

-- A subtree that can be searched: those of its items that are below a bound come first, and its nodes know the bytes of their keys.
pub record IsSearchable (bytes : KeyBytes) (is_below : ℕ → Bool) (nodes : Arena Node) (least height slot : ℕ) : Type 0 where
  pub subtree : IsSubtree nodes least height slot
  pub some : 1 ≤ length (entries_at nodes slot)
  pub partitioned : IsPartitioned (λ x. is_below x.key) (items_in nodes height slot)
  pub headed : AllAreHeads bytes (all_heads_of nodes)

-- one of a store
abbrev pub CanBeSearched : Store → KeyBound → ℕ → ℕ → Type 0
CanBeSearched store bound height slot =
    IsSearchable (key_at store.keys) (is_below store.keys bound) store.nodes HALF_FULL height slot

-- The first key of a subtree is below the bound, and its common prefix with the bound's key has this length.
abbrev pub IsFirstKnown : Store → KeyBound → ℕ → ℕ → Type 0
IsFirstKnown store bound slot known =
    IsCommonPrefixAt (key_at store.keys) (is_below store.keys bound) bound.key.now known (entries_at store.nodes slot) 0

-- a subtree to which a search has come
pub record CanSearch (store : Store) (bound : KeyBound) (height slot common_prefix_len : ℕ) : Type 0 where
  pub searchable : CanBeSearched store bound height slot
  pub known : IsFirstKnown store bound slot common_prefix_len

-- A tree that can be searched from its root: the first key is empty, and below the bound.
pub record CanReach (store : Store) (bound : KeyBound) (height slot : ℕ) : Type 0 where
  pub searchable : CanBeSearched store bound height slot
  pub first : (e : NodeEntry) → slice_get (entries_at store.nodes slot) 0 ≡ Some e
      → (bytes_at store.keys e.key ≡ []) × (is_below store.keys bound e.key ≡ true)

-- the position at the child of a node to which a step leads
pub record IsChildPosition (position : Position) (node : Node) (step : Step) (child : Position) : Type 0 where
  pub slot : (e : NodeEntry) → slice_get (entries_of node) step.index ≡ Some e → child.slot ≡ e.child
  pub known : child.common_prefix_len ≡ step.common_prefix_len
  pub following : child.following ≡ first_key position.following (map item_of (drop (step.index + 1) (entries_of node)))

-- the leaf that has the last item below the bound
pub record IsFoundLeaf (store : Store) (bound : KeyBound) (height : ℕ) (position found : Position) : Type 0 where
  pub leaf : found.slot ≡ leaf_in store.nodes height position.slot (is_below store.keys bound)
  pub known : IsFirstKnown store bound found.slot found.common_prefix_len
  pub some : 1 ≤ length (entries_at store.nodes found.slot)
  pub following : found.following
      ≡ first_key position.following (after_leaf store.nodes height position.slot (is_below store.keys bound))
