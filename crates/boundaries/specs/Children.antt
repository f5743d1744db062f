-- The children of a node, and what a change of them leaves. This project's own.
use Rattle.std.specs.Prelude.{◌≡◌, ◌≢◌, ℕ, ℤ, ◌≤ℤ◌, suc, ◌+◌, List, [], ◌++◌, ◌⊎◌, length, ◌∷◌, take, drop, nat_eq, slice_get, slice_set, option_map, unwrap_or, Option, None, Some, IfSome}
use Rattle.std.specs.List.{All, Contains, IsDistinct, flat_map}
use Rattle.std.specs.FinMap as map
use Rattle.arena.specs.Arena.{Arena, IsLive, record_at, key_at, spare_of}
use Rattle.boundaries.specs.declared.entry.NodeEntry.{NodeEntry}
use Rattle.boundaries.specs.declared.node.Node.{Node}
use Rattle.boundaries.specs.Item.{Item, Describes}
use Rattle.boundaries.specs.Subtree.{entries_at, items_in, slots_in, IsChild, IsSubtree}

-- the child of the entry at an index
abbrev pub child_at : List NodeEntry → ℕ → ℕ
child_at entries index = unwrap_or (option_map (λ e. e.child) (slice_get entries index)) 0

-- a slot that was taken, if any
abbrev pub slot_taken : Option ℕ → List ℕ
slot_taken None = []
slot_taken (Some slot) = slot ∷ []

-- A subtree and the right neighbour that it was split from, if any: the items of both.
abbrev pub items_with : Arena Node → ℕ → ℕ → Option ℕ → List Item
items_with nodes height slot None = items_in nodes height slot
items_with nodes height slot (Some added) = items_in nodes height slot ++ items_in nodes height added

-- the slots of both
abbrev pub slots_with : Arena Node → ℕ → ℕ → Option ℕ → List ℕ
slots_with nodes height slot None = slots_in nodes height slot
slots_with nodes height slot (Some added) = slots_in nodes height slot ++ slots_in nodes height added

-- Entries and the subtrees of this height of their children: the items of all.
abbrev pub items_of : Arena Node → ℕ → List NodeEntry → List Item
items_of nodes height entries = flat_map (λ e. items_in nodes height e.child) entries

-- the slots of all
abbrev pub slots_of : Arena Node → ℕ → List NodeEntry → List ℕ
slots_of nodes height entries = flat_map (λ e. slots_in nodes height e.child) entries

-- the entries are right
abbrev pub AreChildren : Arena Node → ℕ → ℕ → List NodeEntry → Type 0
AreChildren nodes least height entries = All (IsChild nodes least height (IsSubtree nodes least height)) entries

-- no record has key bytes
abbrev pub IsKeyless : Arena Node → Type 0
IsKeyless nodes = (s : ℕ) → IfSome (key_at nodes s) (λ key. key ≡ [])

-- These slots were used and those are used now. New ones weren't live, and all others stay as they were.
pub record Changes (old new : Arena Node) (was now : List ℕ) : Type 0 where
  pub distinct : IsDistinct nat_eq now
  pub slots : (s : ℕ) → Contains now s → Contains was s ⊎ (record_at old s ≡ None)
  pub others : (s : ℕ) → ¬ Contains was s → IsLive old s → record_at new s ≡ record_at old s
  pub live : map.len new.records + length was ≡ map.len old.records + length now
  pub spare : spare_of new 0 + map.len new.records ≡ spare_of old 0 + map.len old.records
  pub keyless : IsKeyless new

-- The entries of a node of which those from one index up to another lead to changed subtrees. The others are right.
pub record IsFamily (nodes : Arena Node) (least height : ℕ) (entries : List NodeEntry) (from to : ℕ) : Type 0 where
  pub distinct : IsDistinct nat_eq (slots_of nodes height entries)
  pub below : All (λ e. IsSubtree nodes least height e.child) entries
  pub before : AreChildren nodes least height (take from entries)
  pub following : AreChildren nodes least height (drop to entries)

-- the entries of a node, made right
pub record IsRebalanced (old new : Arena Node) (least height : ℕ) (was now : List NodeEntry) : Type 0 where
  pub children : AreChildren new least height now
  pub items : items_of new height now ≡ items_of old height was
  pub changes : Changes old new (slots_of old height was) (slots_of new height now)

-- Between these entries are two others: for a child and for its right neighbour.
pub record IsLinked (nodes : Arena Node) (child added : ℕ) (before following now : List NodeEntry) : Type 0 where
  pub first : NodeEntry
  pub second : NodeEntry
  pub entries : now ≡ before ++ (first ∷ second ∷ following)
  pub first_child : first.child ≡ child
  pub first_describes : (height least : ℕ) → IsSubtree nodes least height child → Describes first (items_in nodes height child)
  pub second_child : second.child ≡ added
  pub second_describes : (height least : ℕ) → IsSubtree nodes least height added → Describes second (items_in nodes height added)

-- the entries of the nodes at a slot and at that of the right neighbour that it was split from, if any
abbrev pub entries_at_both : Arena Node → ℕ → Option ℕ → List NodeEntry
entries_at_both nodes slot None = entries_at nodes slot
entries_at_both nodes slot (Some added) = entries_at nodes slot ++ entries_at nodes added

-- The node at a slot leads to subtrees of this height, of which those from one index up to another are changed. Its other
-- entries are right.
pub record IsFamilyAt (nodes : Arena Node) (least height slot from to : ℕ) : Type 0 where
  pub family : IsFamily nodes least height (entries_at nodes slot) from to
  pub apart : ¬ Contains (slots_of nodes height (entries_at nodes slot)) slot

-- the node at a slot, made right
pub record IsRebalancedAt (old new : Arena Node) (least height slot : ℕ) : Type 0 where
  pub subtree : IsSubtree new least (suc height) slot
  pub items : items_in new (suc height) slot ≡ items_in old (suc height) slot
  pub changes : Changes old new (slots_in old (suc height) slot) (slots_in new (suc height) slot)

-- The entry at an index of the node at a slot has this version now. All others, and all other nodes, stay as they were.
pub record HasRaisedEntry (old new : Arena Node) (slot index : ℕ) (version : ℤ) : Type 0 where
  pub entry : (e : NodeEntry) → slice_get (entries_at old slot) index ≡ Some e
      → entries_at new slot ≡ slice_set (entries_at old slot) index (record e { version = version })
  pub others : (s : ℕ) → s ≢ slot → record_at new s ≡ record_at old s

-- The entry at an index would be right with this version, unless it has a greater one.
abbrev pub DescribesWritten : Arena Node → ℕ → ℕ → ℕ → ℤ → Type 0
DescribesWritten nodes height slot index version =
    (e : NodeEntry) → slice_get (entries_at nodes slot) index ≡ Some e → e.version ≤ℤ version
    → Describes (record e { version = version }) (items_in nodes height e.child)
