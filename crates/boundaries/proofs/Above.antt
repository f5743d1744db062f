-- Whether a version is above another, of items and of the entries for them.
use Rattle.std.proofs.Common.{◌≡◌, Bool, true, List, map, IsTrue, ◌↔◌, All, Any, int_le, arith, ℤ, ◌<ℤ◌, ◌≤ℤ◌, w64, SFits, to_z, of_z}
use Rattle.std.proofs.lemmas.Int.{ints, to_z-of_z}
use Rattle.boundaries.proofs.Words.{NodeEntry, Item, item_of}
use Rattle.boundaries.proofs.GreatestParts.{Bounds}
use Rattle.keys.proofs.callers.SomeElement.{Any-map, Any-unmap}

-- the other way about
pub at_most_tested : (a b : ℤ) → SFits w64 a → SFits w64 b
    → int_le (to_z w64 (of_z w64 a)) (to_z w64 (of_z w64 b)) ≡ true → a ≤ℤ b
at_most_tested a b f g h =
    let t : int_le a b ≡ true = rw (to_z-of_z w64 a f, to_z-of_z w64 b g) at h in
    grind (arith, ints)

module _ (v : ℤ) where
  abbrev pub IsAbove : List Item → Type 0
  IsAbove items = Any (λ x. v <ℤ x.version) items

  -- where none is greater than a version that isn't above it, none is above it
  pub not_above : (w : ℤ) (items : List Item) → All (Bounds w) items → w ≤ℤ v → IsAbove items → ⊥
  not_above w items bound le a = let lt : v <ℤ a.1.version = a.4 in omega (arith, ints, le, rw a.3 at (bound a.0 a.1 a.2), lt)

  -- what the code answers of entries, where these are the items
  pub leaf_above : (b : Bool) (entire : List Item) (es : List NodeEntry) → entire ≡ map item_of es
      → (IsTrue b ↔ Any (λ e. v <ℤ e.version) es) → (IsTrue b ↔ IsAbove entire)
  leaf_above b entire es e h =
      let P = λ (x : Item). v <ℤ x.version in
      rw e ((λ t. Any-map item_of P es (h.0 t)), (λ a. h.1 (Any-unmap item_of P es a)))
