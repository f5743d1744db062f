-- The items of a tree, in the order of their keys. A key is the slot of its bytes. This project's own.
use Rattle.std.specs.Prelude.{◌≡◌, ◌⊎◌, ℕ, ℤ, ◌≤ℤ◌, List, ◌∷◌}
use Rattle.std.specs.List.{All, Any}
use Rattle.boundaries.specs.declared.entry.NodeEntry.{NodeEntry}

pub record Item : Type 0 where
  pub key : ℕ
  pub version : ℤ

-- the item of a leaf's entry
abbrev pub item_of : NodeEntry → Item
item_of e = record { key = e.key; version = e.version }

abbrev pub key_of : Item → ℕ
key_of x = x.key

abbrev pub item_version : Item → ℤ
item_version x = x.version

abbrev pub version_of : NodeEntry → ℤ
version_of e = e.version

-- none of these has a greater version, and one has this one
pub record IsGreatest {X : Type 0} (version_at : X → ℤ) (version : ℤ) (xs : List X) : Type 0 where
  pub bound : All (λ x. version_at x ≤ℤ version) xs
  pub reached : Any (λ x. version_at x ≡ version) xs

-- the greatest of a version and those of these
pub record IsMost {X : Type 0} (version_at : X → ℤ) (least : ℤ) (xs : List X) (version : ℤ) : Type 0 where
  pub bound : All (λ x. version_at x ≤ℤ version) xs
  pub least_bound : least ≤ℤ version
  pub reached : (version ≡ least) ⊎ Any (λ x. version_at x ≡ version) xs

-- the first of these items has the entry's key, and its version is the greatest of theirs
pub record Describes (e : NodeEntry) (items : List Item) : Type 0 where
  pub first : Item
  pub others : List Item
  pub items_are : items ≡ first ∷ others
  pub key : e.key ≡ first.key
  pub greatest : IsGreatest (λ x. x.version) e.version items
