-- A change to the items of a tree, and the last of a list.
use Rattle.std.proofs.Common.{◌≡◌, ◌≢◌, ℕ, ◌+◌, ◌≤◌, ◌<◌, ◌^◌, List, [], ◌∷◌, ◌++◌, length, refl, ap, arith}
use Rattle.std.specs.FinMap as finite
use Rattle.arena.specs.Arena.{Arena, spare_of}
use Rattle.boundaries.specs.declared.node.Node.{Node}
use Rattle.boundaries.specs.Item.{Item}
use Rattle.boundaries.specs.Subtree.{items_in}
use Rattle.boundaries.specs.Bound.{Keys}
use Rattle.boundaries.specs.Position.{CanReach}
use Rattle.boundaries.specs.Walk.{CanChangeTree, items_of_tree}
use Rattle.boundaries.specs.declared.key_bound.KeyBound.{KeyBound}
use Rattle.boundaries.specs.declared.tree.Tree.{Tree}
use Rattle.boundaries.proofs.Counting.{low, enough_spare}
use Rattle.boundaries.specs.Store.{IsRooted, IsTree}

-- A tree can be changed.
pub can_change : {bound : KeyBound} {Wants : Keys → List Item → Type 0} {tree : Tree} {len room : ℕ}
    → IsTree tree.store.nodes tree.root.slot tree.root.height len room → len < 2 ^ 64
    → CanReach tree.store bound tree.root.height tree.root.slot → Wants tree.store.keys (items_of_tree tree)
    → tree.store.removed.items ≡ [] → CanChangeTree bound Wants tree
can_change {bound} {Wants} {tree} {len} {room} t fits reach wanted none =
    let nodes = tree.store.nodes in
    let low_is = low nodes tree.root.slot tree.root.height len room t fits in
    let room_is : tree.root.height + 1 < spare_of nodes 0 =
    omega (arith, enough_spare nodes tree.root.slot tree.root.height len room t) in
    record { low = low_is; rooted = t.rooted; room = room_is; reach = reach; wanted = wanted; none_removed = none }

-- the tree after a change that puts other items in its nodes
pub tree_put : (a b : Arena Node) (root height slot above len now room : ℕ)
    → IsTree a root height len room → IsRooted b slot above
    → spare_of b 0 + finite.len b.records ≡ spare_of a 0 + finite.len a.records
    → now ≡ length (items_in b above slot) → 1 ≤ now → now ≤ room → IsTree b slot above now room
tree_put a b root height slot above len now room t rooted spare counted some within =
    let same : finite.len a.records + spare_of a 0 ≡ finite.len b.records + spare_of b 0 = omega arith in
    record {
      rooted = rooted;
      counted = counted;
      some = some;
      within = within;
      reserved = rw same at t.reserved;
    }

-- a list that isn't empty ends with an element
pub record Ended {X : Type 0} (xs : List X) : Type 0 where
  pub front : List X
  pub last : X
  pub is : xs ≡ front ++ last ∷ []

-- which is there where the list isn't empty
pub ended_some : {X : Type 0} (xs : List X) → xs ≢ [] → Ended xs
ended_some [] some = absurd (some refl)
ended_some (x ∷ []) some = record { front = []; last = x; is = refl }
ended_some (x ∷ y ∷ ys) some =
    let r = ended_some (y ∷ ys) (λ none. absurd (cc)) in
    record { front = x ∷ r.front; last = r.last; is = ap (λ l. x ∷ l) r.is }
