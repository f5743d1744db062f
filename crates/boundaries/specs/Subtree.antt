-- A subtree: the nodes below a slot, all leaves at one depth. This project's own.
use Rattle.std.specs.Prelude.{ℕ, zero, suc, ◌≤◌, List, [], ◌∷◌, length, map, option_map, unwrap_or}
use Rattle.std.specs.List.{All, flat_map}
use Rattle.arena.specs.Arena.{Arena, IsLive, header_at}
use Rattle.boundaries.specs.declared.entry.NodeEntry.{NodeEntry}
use Rattle.boundaries.specs.declared.node.Node.{Node}
use Rattle.boundaries.specs.Item.{Item, item_of, Describes}
use Rattle.boundaries.specs.Node.{entries_of}

-- the entries of the node at a slot
abbrev pub entries_at : Arena Node → ℕ → List NodeEntry
entries_at nodes slot = unwrap_or (option_map entries_of (header_at nodes slot)) []

-- the items of the subtree of this height at a slot, in order
abbrev pub items_in : Arena Node → ℕ → ℕ → List Item
items_in nodes zero slot = map item_of (entries_at nodes slot)
items_in nodes (suc height) slot = flat_map (λ e. items_in nodes height e.child) (entries_at nodes slot)

-- the slots of its nodes
abbrev pub slots_in : Arena Node → ℕ → ℕ → List ℕ
slots_in nodes zero slot = slot ∷ []
slots_in nodes (suc height) slot = slot ∷ flat_map (λ e. slots_in nodes height e.child) (entries_at nodes slot)

-- The node of an entry's child has at least n entries. The entry has the first key and the greatest version of the
-- child's subtree.
pub record IsChild (nodes : Arena Node) (least height : ℕ) (IsBelow : ℕ → Type 0) (e : NodeEntry) : Type 0 where
  pub filled : least ≤ length (entries_at nodes e.child)
  pub subtree : IsBelow e.child
  pub describes : Describes e (items_in nodes height e.child)

-- The nodes are live, and no node above a leaf is without a child.
abbrev pub IsSubtree : Arena Node → ℕ → ℕ → ℕ → Type 0
IsSubtree nodes least zero slot = IsLive nodes slot
IsSubtree nodes least (suc height) slot =
    IsLive nodes slot × (1 ≤ length (entries_at nodes slot))
    × All (IsChild nodes least height (IsSubtree nodes least height)) (entries_at nodes slot)
