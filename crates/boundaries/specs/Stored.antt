-- How boundaries are stored: their versions in a tree of items, and their keys in an arena. This project's own.
use Rattle.std.specs.Prelude.{◌≡◌, ◌≤◌, ◌<◌, ◌+◌, ◌^◌, ℕ, ℤ, List, [], ◌∷◌, length, map, nat_eq, slice_index, unwrap_or}
use Rattle.std.specs.List.{All, IsDistinct, flat_map}
use Rattle.std.specs.FinMap as finite
use Rattle.arena.specs.Arena.{IsLive, wanted_of}
use Rattle.keys.specs.declared.range.Range.{Range}
use Rattle.boundaries.specs.declared.overwrite.Overwrite.{Overwrite}
use Rattle.boundaries.specs.declared.tree.Tree.{Tree}
use Rattle.boundaries.specs.Bound.{Keys, bytes_at}
use Rattle.boundaries.specs.Boundary.{Boundary, AreBoundaries, AreInOrder, value_at}
use Rattle.boundaries.specs.Item.{Item}
use Rattle.boundaries.specs.Store.{AreHeaded, IsTree}
use Rattle.boundaries.specs.Walk.{IsRaisedInTree, items_of_tree}
use Rattle.boundaries.specs.Written.{written_between}

-- boundaries, and the memory that more of them may use
pub record Stored : Type 0 where
  -- in the order of their keys
  pub boundaries : List Boundary
  -- for each size of slots, how many keys
  pub spare : List ℕ
  -- how many boundaries there may be in the tree
  pub room : ℕ

-- how many keys of the size may be stored
abbrev pub spare_in : Stored → ℕ → ℕ
spare_in stored size = slice_index stored.spare size

-- the lengths of a range's begin and end
abbrev pub lengths : Range → ℕ × ℕ
lengths range = (length range.begin, length range.end)

-- the lengths of begins and ends, one by one
abbrev pub each_length : List (ℕ × ℕ) → List ℕ
each_length lengths = flat_map (λ p. p.0 ∷ p.1 ∷ []) lengths

abbrev pub boundary_of : Keys → Item → Boundary
boundary_of keys x = record { key = bytes_at keys x.key; version = x.version }

-- what is stored
abbrev pub boundaries_of : Tree → List Boundary
boundaries_of tree = map (boundary_of tree.store.keys) (items_of_tree tree)

-- What boundaries keep: each key is that of a live slot, no slot is used twice, and none is live beside those used. Nodes know the
-- bytes of their keys.
pub record AreStored (tree : Tree) (room : ℕ) : Type 0 where
  pub in_order : AreInOrder (boundaries_of tree)
  pub live : All (λ x. IsLive tree.store.keys x.key) (items_of_tree tree)
  pub distinct : IsDistinct nat_eq (map (λ x. x.key) (items_of_tree tree))
  pub counted : finite.len tree.store.keys.records ≡ length (items_of_tree tree)
  pub headed : AreHeaded tree.store
  pub tree_is : IsTree tree.store.nodes tree.root.slot tree.root.height (length (items_of_tree tree)) room
  pub raised : IsRaisedInTree tree.store.nodes tree.root.slot tree.root.height tree.raised
  pub none_removed : tree.store.removed.items ≡ []
  pub few : room < 2 ^ 64

-- the version at the end of what is written
abbrev pub version_at_end : Overwrite → List Boundary → ℤ
version_at_end new bs = unwrap_or new.at_end (value_at bs new.end.now)

-- the boundaries after the writing
abbrev pub overwritten : Overwrite → ℤ → List Boundary → List Boundary
overwritten new at_end bs = written_between new.start.now new.end.now new.version at_end bs

-- The range was written over.
pub record IsWrittenOver (new : Overwrite) (old now : Stored) : Type 0 where
  pub boundaries : now.boundaries ≡ overwritten new (version_at_end new old.boundaries) old.boundaries
  pub used_slots : (size : ℕ) → spare_in old size
      ≤ spare_in now size + wanted_of (length new.start.now ∷ length new.end.now ∷ []) size

-- Some boundaries of the range were removed, so that writing it with this version at the end gives the same.
pub record IsCleared (new : Overwrite) (old now : Stored) (at_end : ℤ) : Type 0 where
  pub same : overwritten new at_end now.boundaries ≡ overwritten new (version_at_end new old.boundaries) old.boundaries
  pub boundaries : AreBoundaries now.boundaries
  pub fewer : length now.boundaries + 1 ≤ length old.boundaries
  pub none_used : (size : ℕ) → spare_in old size ≤ spare_in now size
