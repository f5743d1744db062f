-- The entries of a node once a child was changed or split.
use Rattle.std.proofs.Common.{◌≡◌, ℕ, ◌+◌, ◌≤◌, List, [], ◌∷◌, length, take, drop, arith}
use Rattle.std.proofs.lemmas.List.Elements.{All-nil, All-cons, All-take, All-drop}
use Rattle.boundaries.proofs.Words.{Arena, NodeEntry, Node, Describes, entries_at, items_in, slots_in, IsSubtree, slots_of, AreChildren, HALF_FULL}
use Rattle.boundaries.proofs.Frames.{IsRight}
use Rattle.boundaries.proofs.Changing.{Moves}
use Rattle.boundaries.proofs.Families.{Loose, loose}
use Rattle.boundaries.proofs.Rebalancing.{right_child}
use Rattle.boundaries.proofs.Stepping.{IsAt, here, split, one_slots}

-- Two entries that lead to these slots are right.
pub both_right : (b : Arena Node) (least height x y : ℕ) (t u : NodeEntry) → t.child ≡ x → u.child ≡ y
    → IsSubtree b least height x → IsSubtree b least height y
    → (least ≤ length (entries_at b x)) × (least ≤ length (entries_at b y))
    → ((height least : ℕ) → IsSubtree b least height x → Describes t (items_in b height x))
    → ((height least : ℕ) → IsSubtree b least height y → Describes u (items_in b height y))
    → AreChildren b least height (t ∷ u ∷ [])
both_right b least height x y t u child_t child_u below_x below_y filled describes_t describes_u =
    let Right = IsRight b least height in
    let first = right_child b least height x t child_t filled.0 below_x (describes_t height least below_x) in
    let second = right_child b least height y u child_u filled.1 below_y (describes_u height least below_y) in
    All-cons Right t (u ∷ []) first (All-cons Right u [] second (All-nil Right))

-- Others stand in place of the child's entry.
pub loose_at : {a b : Arena Node} {height lower slot i x : ℕ} (at : IsAt a height lower slot i x) (new : List NodeEntry) → Moves a b (slots_in a lower x) (slots_of b lower new)
    → Loose a b HALF_FULL lower (take i (entries_at a slot)) (here at ∷ []) (drop (i + 1) (entries_at a slot)) new
loose_at {a} {b} {height} {lower} {slot} {i} at new moves =
    let Right = IsRight a HALF_FULL lower in
    let es = entries_at a slot in
    loose a b HALF_FULL lower (take i es) (here at ∷ []) (drop (i + 1) es) new
    (λ s. (rw (← split at) (omega (arith, at.few s)))) (All-take Right i es at.subtree.2)
    (All-drop Right (i + 1) es at.subtree.2) (rw (one_slots at a) at moves)
