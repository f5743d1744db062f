-- A tree of one node, and more spare nodes.
use Rattle.std.proofs.Common.{◌≡◌, ◌≢◌, ℕ, ◌+◌, ◌-◌, ◌*◌, ◌/◌, ◌≤◌, [], ◌∷◌, Option, Some, None, is_some, refl, ap, ◌∙◌, arith}
use Rattle.std.specs.FinMap as finite
use Rattle.std.specs.Ordering.{nat_cmp}
use Rattle.std.proofs.Math.Nat.{mul-le-mul_left}
use Rattle.arena.specs.Arena.{Arena, Record, record_at, spare_of}
use Rattle.boundaries.specs.declared.entry.NodeEntry.{NodeEntry}
use Rattle.boundaries.specs.declared.node.Node.{Node}
use Rattle.boundaries.specs.declared.walk.RaisedLeaf.{RaisedLeaf}
use Rattle.boundaries.specs.Node.{entries_of}
use Rattle.boundaries.specs.Subtree.{slots_in}
use Rattle.boundaries.specs.declared.boundary_list.TheConstants.{LONGEST_PATH}
use Rattle.boundaries.specs.declared.node.TheConstants.{HALF_FULL}
use Rattle.boundaries.specs.Store.{IsTree}
use Rattle.boundaries.specs.Walk.{IsRaisedInTree}
use Rattle.boundaries.proofs.callers.Times.{distinct_if_once}
use Rattle.boundaries.proofs.Frames.{Agree, agree_own, items_same, raised_same, slots_same, subtree_same}
use Rattle.boundaries.proofs.Changing.{moves_placed}

-- so many nodes are enough for the items and a change
pub enough_nodes : (k room total : ℕ) → 1 ≤ k → room / k + 67 ≤ total → room + k * 66 ≤ k * total
enough_nodes k room total some many = omega (arith, mul-le-mul_left k many)

-- a tree of a single node of one entry, placed in an arena without records
pub tree_of_one : (a b : Arena Node) (slot : ℕ) (node : Node) (e : NodeEntry) → a.records ≡ finite.empty → LONGEST_PATH + 1 ≤ spare_of a 0 → record_at a slot ≡ None
    → b.records ≡ finite.insert a.records slot (record { header = node; key = [] })
    → record_at b slot ≡ Some (record { header = node; key = [] })
    → ((s : ℕ) → s ≢ slot → record_at b s ≡ record_at a s)
    → spare_of b 0 + 1 ≡ spare_of a 0 → entries_of node ≡ e ∷ [] → IsTree b slot 0 1 1
tree_of_one a b slot node e empty enough free placed here others spare one =
    let moves = moves_placed a b slot node (λ s. rw (empty, finite.get-empty nat_cmp s) tt) free placed here others spare in
    let none : finite.len a.records ≡ 0 = ap finite.len empty ∙ finite.len-empty nat_cmp (Record Node) in
    let linked : finite.len b.records ≡ 1 = omega (arith, moves.live) in
    let total : 67 ≤ finite.len b.records + spare_of b 0 = omega arith in
    record {
      rooted = record {
        subtree = ap is_some here;
        branches = λ above. absurd (omega arith);
        distinct = distinct_if_once (slot ∷ []) moves.few;
        linked = linked;
        keyless = moves.keyless;
      };
      counted = rw (here, one) refl;
      some = omega arith;
      within = omega arith;
      reserved = omega (arith, mul-le-mul_left (HALF_FULL - 1) total);
    }

-- the leaf of the last write, in the same nodes
pub raised_stays : (a b : Arena Node) (root height : ℕ) (raised : Option RaisedLeaf) → b.records ≡ a.records
    → IsRaisedInTree a root height raised → IsRaisedInTree b root height raised
raised_stays a b root height None same there = tt
raised_stays a b root height (Some leaf) same there = raised_same a b leaf height root (λ s some. rw same refl) there

-- the same nodes, with other spare ones
pub tree_stays : (a b : Arena Node) (root height len room more : ℕ) → b.records ≡ a.records → IsTree a root height len room
    → room ≤ more → more + (HALF_FULL - 1) * LONGEST_PATH ≤ (HALF_FULL - 1) * (finite.len a.records + spare_of b 0)
    → IsTree b root height len more
tree_stays a b root height len room more same t wider enough =
    let agree : Agree a b (slots_in a height root) = λ s some. rw same refl in
    let slots = slots_same a b height root agree in
    record {
      rooted = record {
        subtree = subtree_same a b HALF_FULL height root agree t.rooted.subtree;
        branches = λ above. rw (agree_own a b height root agree) (t.rooted.branches above);
        distinct = rw slots t.rooted.distinct;
        linked = rw (slots, same) t.rooted.linked;
        keyless = λ s. rw same (t.rooted.keyless s);
      };
      counted = rw (items_same a b height root agree) t.counted;
      some = t.some;
      within = omega (arith, t.within);
      reserved = rw same enough;
    }
