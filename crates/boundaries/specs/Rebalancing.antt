-- What must hold where nodes are changed, and the ones above them made right. This project's own.
use Rattle.std.specs.Prelude.{◌≡◌, ◌≢◌, ◌≤◌, ◌<◌, ◌+◌, ◌∷◌, ℕ, [], length, nat_eq, Option, Some, IfSome}
use Rattle.std.specs.List.{IsDistinct}
use Rattle.std.specs.FinMap as map_of
use Rattle.arena.specs.Arena.{Arena, IsLive, header_at, spare_of}
use Rattle.boundaries.specs.declared.node.Node.{Node}
use Rattle.boundaries.specs.declared.node.TheConstants.{HALF_FULL}
use Rattle.boundaries.specs.declared.node.splice.Splice.{Splice}
use Rattle.boundaries.specs.declared.store.Store.{Store}
use Rattle.boundaries.specs.Children.{child_at, slot_taken, slots_with, Changes, IsFamilyAt, IsKeyless}
use Rattle.boundaries.specs.Heads.{AllAreHeads, AreHeads, KeyBytes}
use Rattle.boundaries.specs.Node.{all_heads_of, entries_of, key_heads_of}
use Rattle.boundaries.specs.Splice.{AreHalfFull, CanSplice}
use Rattle.boundaries.specs.Store.{AreHeaded}
use Rattle.boundaries.specs.Subtree.{entries_at, slots_in, IsSubtree}

-- a store whose nodes may be changed
pub record IsSound (store : Store) : Type 0 where
  pub keyless : IsKeyless store.nodes
  pub headed : AreHeaded store

-- The node at a slot, of which entries may be replaced. There is room for a second node.
pub record CanSpliceAt (store : Store) (slot : ℕ) (splice : Splice) : Type 0 where
  pub sound : IsSound store
  pub live : IsLive store.nodes slot
  pub room : 0 < spare_of store.nodes 0
  pub splices : IfSome (header_at store.nodes slot) (λ node. CanSplice store.keys node splice)

-- The keys and what is removed stay as they are.
pub record KeepsKeys (old new : Store) : Type 0 where
  pub keys : new.keys ≡ old.keys
  pub removed : new.removed ≡ old.removed

-- A node is stored at a slot, and its right neighbour, if any, at one that was spare.
pub record IsStored (old new : Store) (slot : ℕ) (added : Option ℕ) : Type 0 where
  pub live : IsLive new.nodes slot
  pub live_added : IfSome added (λ s. IsLive new.nodes s)
  pub changes : Changes old.nodes new.nodes (slot ∷ []) (slot ∷ slot_taken added)
  pub taken : spare_of old.nodes 0 ≤ spare_of new.nodes 0 + 1
  pub filled : IfSome added (λ s. AreHalfFull (entries_at new.nodes slot) (entries_at new.nodes s))
  pub headed : AreHeaded new

-- A node is placed at a slot that was spare, with what it knows of keys.
pub record IsPlaced (old new : Arena Node) (node : Node) (slot : ℕ) : Type 0 where
  pub entries : entries_at new slot ≡ entries_of node
  pub live : IsLive new slot
  pub changes : Changes old new [] (slot ∷ [])
  pub headed : (bytes : KeyBytes) → AreHeads bytes (key_heads_of node) → AllAreHeads bytes (all_heads_of old)
      → AllAreHeads bytes (all_heads_of new)

-- The node at a slot, of which the child at an index was split from the one that is added.
pub record CanInsertChild (store : Store) (slot index added : ℕ) : Type 0 where
  pub sound : IsSound store
  pub live : IsLive store.nodes slot
  pub within : index < length (entries_at store.nodes slot)
  pub some : 0 < length (entries_at store.nodes (child_at (entries_at store.nodes slot) index))
  pub some_added : 0 < length (entries_at store.nodes added)
  pub room : 0 < spare_of store.nodes 0

-- the node at a slot, of which the child at an index has changed
pub record CanRebalance (store : Store) (slot index : ℕ) : Type 0 where
  pub sound : IsSound store
  pub live : IsLive store.nodes slot
  pub within : index < length (entries_at store.nodes slot)
  pub several : 2 ≤ length (entries_at store.nodes slot)
  pub family : (height : ℕ) × IsFamilyAt store.nodes HALF_FULL height slot index (index + 1)

-- the same if that child has enough entries
pub record CanRaise (store : Store) (slot index : ℕ) : Type 0 where
  pub rebalance : CanRebalance store slot index
  pub filled : HALF_FULL ≤ length (entries_at store.nodes (child_at (entries_at store.nodes slot) index))

-- the node at a slot, of which the child at an index and the next one are merged, or share their entries evenly
pub record CanMerge (store : Store) (slot index : ℕ) : Type 0 where
  pub sound : IsSound store
  pub live : IsLive store.nodes slot
  pub within : index + 1 < length (entries_at store.nodes slot)
  pub filled : HALF_FULL ≤ length (entries_at store.nodes (child_at (entries_at store.nodes slot) index))
      + length (entries_at store.nodes (child_at (entries_at store.nodes slot) (index + 1)))
  pub family : (height : ℕ) × IsFamilyAt store.nodes HALF_FULL height slot index (index + 2)

-- the nodes of two slots
pub record AreTwo (store : Store) (first second : ℕ) : Type 0 where
  pub sound : IsSound store
  pub live_first : IsLive store.nodes first
  pub live_second : IsLive store.nodes second
  pub apart : first ≢ second

-- A node that was made right: it has one entry less at most. No spare slot was taken.
pub record LosesOneAtMost (old new : Store) (slot : ℕ) : Type 0 where
  pub few_less : length (entries_at old.nodes slot) ≤ length (entries_at new.nodes slot) + 1
  pub spare : spare_of old.nodes 0 ≤ spare_of new.nodes 0
  pub headed : AreHeaded new
  pub keeps : KeepsKeys old new

-- a root and the right neighbour that it was split from
pub record CanGrow (store : Store) (height slot added : ℕ) : Type 0 where
  pub sound : IsSound store
  pub low : height < 63
  pub first : IsSubtree store.nodes HALF_FULL height slot
  pub second : IsSubtree store.nodes HALF_FULL height added
  pub filled : AreHalfFull (entries_at store.nodes slot) (entries_at store.nodes added)
  pub distinct : IsDistinct nat_eq (slots_with store.nodes height slot (Some added))
  pub linked : map_of.len store.nodes.records ≡ length (slots_with store.nodes height slot (Some added))
  pub room : 0 < spare_of store.nodes 0

-- a root that may have a single child
pub record CanShrink (store : Store) (height slot : ℕ) : Type 0 where
  pub sound : IsSound store
  pub subtree : IsSubtree store.nodes HALF_FULL height slot
  pub distinct : IsDistinct nat_eq (slots_in store.nodes height slot)
  pub linked : map_of.len store.nodes.records ≡ length (slots_in store.nodes height slot)
