-- What an entry tells of the items of its child.
use Rattle.std.proofs.Common.{rules, ◌≡◌, ℕ, List, ◌∷◌, ◌++◌, flat_map, ap, ◌∙◌, arith}
use Rattle.boundaries.proofs.Words.{Arena, NodeEntry, Node, version_of, IsGreatest, Describes, entries_at, items_in, IsSubtree}
use Rattle.boundaries.proofs.FirstKeys.{items_under, node_items, node_describes}
use Rattle.boundaries.proofs.GreatestParts.{greatest_children}

-- an entry with the first key and the greatest version of a node's entries tells the items below
pub describes_items : (a : Arena Node) (least height slot : ℕ) (t e : NodeEntry) (es : List NodeEntry)
    → entries_at a slot ≡ e ∷ es → t.key ≡ e.key → IsGreatest version_of t.version (e ∷ es)
    → IsSubtree a least height slot → Describes t (items_in a height slot)
describes_items a least height slot t e es here key greatest h =
    let describe = rw here at (node_describes a least height slot h) in
    let child = describe 0 e (omega arith) in
    let items = ap (λ xs. xs ++ flat_map (items_under a height) es) child.items_are in
    let same = key ∙ child.key in
    let peak = greatest_children (items_under a height) t.version (e ∷ es) describe greatest in
    rw (node_items a least height slot, here) (search rules)
