-- What boundaries are stored in: keys, and the nodes of a tree over them. This project's own.
use Rattle.std.specs.Prelude.{◌≡◌, ◌≢◌, ◌≤◌, ◌+◌, ◌-◌, ◌*◌, ℕ, List, [], ◌∷◌, length, nat_eq, Option, None, Some}
use Rattle.std.specs.List.{IsDistinct}
use Rattle.std.specs.FinMap as finite
use Rattle.arena.specs.Arena.{IsLive, key_at, record_at, spare_of, wanted_of}
use Rattle.boundaries.specs.declared.boundary_list.TheConstants.{LONGEST_PATH}
use Rattle.boundaries.specs.declared.node.TheConstants.{HALF_FULL}
use Rattle.boundaries.specs.declared.store.Store.{Store}
use Rattle.boundaries.specs.Bound.{Keys}
use Rattle.boundaries.specs.Children.{IsKeyless, slot_taken}
use Rattle.boundaries.specs.Heads.{AllAreHeads}
use Rattle.boundaries.specs.Node.{all_heads_of}
use Rattle.boundaries.specs.Subtree.{entries_at, items_in, slots_in, IsSubtree}
use Rattle.arena.specs.Arena.{Arena}
use Rattle.boundaries.specs.declared.node.Node.{Node}

-- what each node knows of its keys is right
abbrev pub AreHeaded : Store → Type 0
AreHeaded store = AllAreHeads (key_at store.keys) (all_heads_of store.nodes)

-- the keys that were there are there, with the same bytes
abbrev pub KeysStay : Keys → Keys → Type 0
KeysStay old new = (slot : ℕ) → IsLive old slot → record_at new slot ≡ record_at old slot

-- The keys of a range are placed in slots that were spare, that of its end unless it is there already.
pub record PutsKeys (old new : Keys) (start end : List ℕ) (first : ℕ) (second : Option ℕ) : Type 0 where
  pub free : record_at old first ≡ None
  pub start_is : key_at new first ≡ Some start
  pub free_end : (slot : ℕ) → second ≡ Some slot → (record_at old slot ≡ None) × (slot ≢ first) × (key_at new slot ≡ Some end)
  pub others : (slot : ℕ) → slot ≢ first → second ≢ Some slot → record_at new slot ≡ record_at old slot
  pub counted : finite.len new.records ≡ finite.len old.records + length (first ∷ slot_taken second)
  pub spare : (size : ℕ) → spare_of old size ≤ spare_of new size + wanted_of (length start ∷ length end ∷ []) size

-- the nodes of a tree
pub record IsRooted (nodes : Arena Node) (root height : ℕ) : Type 0 where
  pub subtree : IsSubtree nodes HALF_FULL height root
  -- a root that isn't a leaf has two children at least
  pub branches : 1 ≤ height → 2 ≤ length (entries_at nodes root)
  -- no node is linked twice, and each node is linked
  pub distinct : IsDistinct nat_eq (slots_in nodes height root)
  pub linked : finite.len nodes.records ≡ length (slots_in nodes height root)
  pub keyless : IsKeyless nodes

-- what a tree keeps: its nodes, and how many items they hold and have room for
pub record IsTree (nodes : Arena Node) (root height len room : ℕ) : Type 0 where
  pub rooted : IsRooted nodes root height
  pub counted : len ≡ length (items_in nodes height root)
  pub some : 1 ≤ len
  pub within : len ≤ room
  -- Nodes for n items, and for one change more. Other than the root, each node has enough entries that it takes the place
  -- of one item less than the least number of them.
  pub reserved : room + (HALF_FULL - 1) * LONGEST_PATH ≤ (HALF_FULL - 1) * (finite.len nodes.records + spare_of nodes 0)
