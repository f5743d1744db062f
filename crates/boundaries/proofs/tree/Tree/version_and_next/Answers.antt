use Rattle.std.proofs.Common.{rules, not, ◌≡◌, ◌<◌, ◌∙◌, take, drop, map, [], ◌∷◌, ◌++◌, None, sym, ap, refl, append_assoc, get_or, ◌-◌, arith, w64, to_z, of_z}
use Rattle.std.proofs.lemmas.Int.{to_z-of_z}
use Rattle.std.proofs.lemmas.List.{map-append}
use mathlib.Core.List.{map-map}
use Rattle.boundaries.specs.Item.{item_version}
use Rattle.boundaries.specs.Position.{IsFoundLeaf as IsFoundAt}
use Rattle.boundaries.proofs.Words.{CanStep, HALF_FULL, Item, NodeEntry, after_leaf, before_leaf, entries_at, entries_of, first_key, items_not_below, is_below, item_of, items_below, items_in}
use Rattle.boundaries.proofs.ChangedLeaf.{first_below}
use Rattle.boundaries.proofs.Found.{entries_read}
use Rattle.boundaries.proofs.Headed.{headed_at}
use Rattle.boundaries.proofs.Keys.{following-parts, filter-items, first_key-append}
use Rattle.boundaries.proofs.LeafChange.{parted}
use Rattle.boundaries.proofs.Leaves.{IsLeaf, is_leaf, leaf_partitioned_by_keys, passing_is}
use Rattle.boundaries.proofs.Reaching.{found_leaf_in}
use Rattle.boundaries.proofs.Removing.{last_of_first}
use Rattle.boundaries.proofs.Roots.{can_search_root}
use Rattle.boundaries.proofs.tree.Tree.version_and_next.Goals.{After-find-found, After-header_ref-leaf}
use Rattle.boundaries.proofs.tree.Tree.version_and_next.Goals as goal

pub find-found-requires : goal.find-found-requires
find-found-requires c = rw c.position.ensures.position (search (rules, can_search_root c.requires.can_reach))

-- where the search has come to
at_leaf : (c : After-find-found) → IsFoundAt c.args.self.now.store c.args.bound c.args.self.now.root.height
    (record { slot = c.args.self.now.root.slot; common_prefix_len = 0; following = None }) c.find-found.result
at_leaf c = rw c.position.ensures.position at c.find-found.ensures.found

-- its leaf, between the items before and behind it
found_leaf : (c : After-find-found) → (let t = c.args.self.now in let p = is_below t.store.keys c.args.bound in
    IsLeaf p (items_in t.store.nodes t.root.height t.root.slot) (before_leaf t.store.nodes t.root.height t.root.slot p)
    (after_leaf t.store.nodes t.root.height t.root.slot p) (entries_at t.store.nodes c.find-found.result.slot))
found_leaf c =
    let t = c.args.self.now in
    let p = is_below t.store.keys c.args.bound in
    let can = c.requires.can_reach.searchable in
    let way = (at_leaf c).leaf in
    let found = rw (← way) at (found_leaf_in t.store.nodes HALF_FULL t.root.height t.root.slot p can.subtree can.partitioned) in
    is_leaf t.store.nodes HALF_FULL t.root.height t.root.slot p c.find-found.result.slot _ can.subtree can.partitioned way refl
    found.items found.before found.following

can_step : (c : After-header_ref-leaf)
    → CanStep c.args.self.now.store.keys c.args.bound c.header_ref-leaf.result.now c.find-found.result.common_prefix_len
can_step c =
    let at = (goal.at.After-header_ref-leaf c).After-find-found in
    let t = c.args.self.now in
    let p = is_below t.store.keys c.args.bound in
    let found = at_leaf at in
    let node = c.header_ref-leaf.result.now in
    let read = entries_read t.store.nodes c.find-found.result.slot node (entries_of node) c.header_ref-leaf.ensures.header refl in
    let partitioned = leaf_partitioned_by_keys p _ _ _ _ (found_leaf at) c.requires.can_reach.searchable.partitioned in
    record {
      can_find = record {
        headed = headed_at _ t.store.nodes _ node c.requires.can_reach.searchable.headed c.header_ref-leaf.ensures.header;
        partitioned = rw read at partitioned;
        some = rw read at found.some;
      };
      known = rw read at found.known;
    }

pub lower_bound-count-requires : goal.lower_bound-count-requires
lower_bound-count-requires c = search (rules, can_step (goal.at.lower_bound-count-requires c).After-header_ref-leaf)

pub overflow_sub-result : goal.overflow_sub-result
overflow_sub-result c =
    let can = can_step (goal.at.overflow_sub-result c).After-header_ref-leaf in
    omega (arith, first_below can, c.lower_bound-count.ensures.count.count_is)

pub returns : goal.returns
returns c =
    let at = goal.at.returns c in
    let t = c.args.self.now in
    let nodes = t.store.nodes in
    let p = is_below t.store.keys c.args.bound in
    let node = c.header_ref-leaf.result.now in
    let es = entries_of node in
    let n = c.lower_bound-count.result in
    let leaf = found_leaf at.After-find-found in
    let can = can_step at.After-header_ref-leaf in
    let read = entries_read nodes c.find-found.result.slot node es c.header_ref-leaf.ensures.header refl in
    let count = c.lower_bound-count.ensures.count in
    let some : 0 < n = omega (arith, first_below can, count.count_is) in
    let parts = parted p es n can.can_find.partitioned count.count_is in
    let before = before_leaf nodes t.root.height t.root.slot p in
    let later = after_leaf nodes t.root.height t.root.slot p in
    let e = c.index-entries-count.result in
    let is = rw c.entries-entries.ensures.entries at c.index-entries-count.is in
    let own = last_of_first es n e some count.within is in
    let front : items_below p (items_in nodes t.root.height t.root.slot) ≡ before ++ map item_of (take n es) =
    rw (parts.0, ← read) (passing_is p _ before later _ leaf) in
    let versions = ap (map item_version) front ∙ map-append item_version before (map item_of (take n es))
    ∙ ap (λ l. map item_version before ++ l) (map-map item_version item_of (take n es)) in
    let after_is : items_not_below p (items_in nodes t.root.height t.root.slot) ≡ map item_of (drop n es) ++ later =
    ap (items_not_below p) leaf.items_are ∙ following-parts p before _ later leaf.pass leaf.fail
    ∙ ap (λ xs. xs ++ later) (ap (λ ns. items_not_below p (map item_of ns)) read ∙ filter-items (λ (x : Item). not (p x.key)) es
    ∙ ap (map item_of) (sym parts.1)) in
    let value : to_z w64 (of_z w64 (get_or c.entries-entries.result.now (n - 1) e).version) ≡ e.version =
    ap (λ (x : NodeEntry). to_z w64 (of_z w64 x.version)) (sym c.index-entries-count.is) ∙ to_z-of_z w64 e.version (search rules) in
    record {
      last = rw value (
        map item_version before ++ own.0,
        versions ∙ ap (λ l. map item_version before ++ l) own.1 ∙ sym (append_assoc (map item_version before) own.0 (e.version ∷ [])),
      );
      next = rw (c.entries-entries.ensures.entries, (at_leaf at.After-find-found).following) at c.key_at-next.ensures.key
          ∙ sym (first_key-append None (map item_of (drop n es)) later) ∙ ap (first_key None) (sym after_is);
    }
