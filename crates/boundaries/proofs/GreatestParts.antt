-- The greatest version of the items of children.
use Rattle.std.proofs.Common.{◌≡◌, List, [], ◌∷◌, flat_map, All, Any, inl, inr, arith, ℤ, ◌≤ℤ◌}
use Rattle.boundaries.proofs.callers.Partitions.{All-joined}
use Rattle.std.proofs.lemmas.Int.{ints}
use Rattle.std.proofs.lemmas.List.Elements.{All-head, All-tail, All-weaker}
use Rattle.boundaries.specs.Item.{item_version}
use Rattle.boundaries.proofs.Words.{NodeEntry, Item, Describes, IsGreatest, version_of}
use Rattle.keys.proofs.callers.SomeElement.{Any-none, Any-cases, Any-left, Any-right}

abbrev pub Bounds : ℤ → Item → Type 0
Bounds v x = x.version ≤ℤ v

abbrev pub Reaches : ℤ → Item → Type 0
Reaches v x = x.version ≡ v

pub higher : (v w : ℤ) (xs : List Item) → v ≤ℤ w → All (Bounds v) xs → All (Bounds w) xs
higher v w xs le = All-weaker (Bounds v) (Bounds w) (λ x h. omega (arith, ints, h, le)) xs

-- For whole children the entries tell it.
module _ (below : NodeEntry → List Item) where
  abbrev Tells : NodeEntry → Type 0
  Tells e = Describes e (below e)

  pub children_bound : (v : ℤ) (es : List NodeEntry) → All Tells es → All (λ e. version_of e ≤ℤ v) es
      → All (Bounds v) (flat_map below es)
  children_bound v es t bound =
      All-joined (Bounds v) below es (λ i d inside. higher _ v _ (bound i d inside) (t i d inside).greatest.bound)

  pub children_reached : (v : ℤ) (es : List NodeEntry) → All Tells es → Any (λ e. version_of e ≡ v) es
      → Any (Reaches v) (flat_map below es)
  children_reached v [] t a = absurd (Any-none (λ (e : NodeEntry). version_of e ≡ v) a)
  children_reached v (e ∷ es) t a =
      elim (Any-cases (λ (e : NodeEntry). version_of e ≡ v) e es a) [
        | inl h ↦ Any-left (Reaches v) (below e) (flat_map below es) (rw (← h) (All-head Tells e es t).greatest.reached)
        | inr b ↦ Any-right (Reaches v) (below e) (flat_map below es) (children_reached v es (All-tail Tells e es t) b)
      ]

  pub greatest_children : (v : ℤ) (es : List NodeEntry) → All Tells es → IsGreatest version_of v es
      → IsGreatest item_version v (flat_map below es)
  greatest_children v es t h = record { bound = children_bound v es t h.bound; reached = children_reached v es t h.reached }
