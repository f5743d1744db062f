use Rattle.std.proofs.Common.{ap, arith, true, rules, w64}
use Rattle.std.specs.Prelude.{FitsSigned}
use Rattle.std.proofs.lemmas.Int.{to_z-of_z}
use Rattle.keys.specs.Key.{IsBefore}
use Rattle.boundaries.specs.Stored.{boundaries_of}
use Rattle.boundaries.specs.Boundary.{AreBoundaries}
use Rattle.boundaries.specs.Walk.{items_of_tree}
use Rattle.boundaries.proofs.Closing.{after_empty}
use Rattle.boundaries.proofs.LastAndInside.{most_is_greatest, range_bound, range_reached}
use Rattle.boundaries.proofs.Nested.{nested}
use Rattle.boundaries.proofs.StoredItems.{kept_items}
use Rattle.boundaries.proofs.StoredTrees.{can_reach, can_reach_after}
use Rattle.boundaries.proofs.callers.WritingValues.{begins_before_end}
use Rattle.boundaries.proofs.boundary_list.Boundaries.greatest.Goals as goal

pub greatest-requires : goal.greatest-requires
greatest-requires c =
    let tree = c.self.inside.tree in
    let begin = c.as_bytes.result.now in
    let end = c.as_bytes-2.result.now in
    let rises : IsBefore begin end =
    rw (c.as_bytes.ensures.bytes, c.as_bytes-2.ensures.bytes) (begins_before_end c.args.range.now c.requires.filled) in
    record {
      from = can_reach_after c.self.invariant c.after-from.result (ap (λ b. b.up_to) c.after-from.ensures.bound);
      to = can_reach c.self.invariant c.before-to.result (rw c.before-to.ensures.bound (after_empty begin end rises));
      nested = rw (c.after-from.ensures.bound, c.before-to.ensures.bound) (nested tree.store.keys true begin end rises);
    }

pub returns-clause-bound : goal.returns-clause-bound
returns-clause-bound c =
    let tree = c.self.inside.tree in
    let items = items_of_tree tree in
    let kept = kept_items c.self.invariant in
    let fits : FitsSigned w64 c.greatest.result = search rules in
    let are : AreBoundaries (boundaries_of tree) = rw (← c.self.view_is) at c.requires.boundaries in
    let most = rw (c.after-from.ensures.bound, c.before-to.ensures.bound, c.as_bytes.ensures.bytes, c.as_bytes-2.ensures.bytes) at
    c.greatest.ensures.most in
    let greatest = most_is_greatest tree.store.keys items kept c.args.range.now c.requires.filled are _ c.greatest.result (omega arith) most in
    rw (← c.self.view_is, to_z-of_z w64 c.greatest.result fits)
    (range_bound tree.store.keys items kept c.args.range.now c.requires.filled are c.greatest.result greatest)

pub returns-clause-reached : goal.returns-clause-reached
returns-clause-reached c =
    let tree = c.self.inside.tree in
    let items = items_of_tree tree in
    let kept = kept_items c.self.invariant in
    let fits : FitsSigned w64 c.greatest.result = search rules in
    let are : AreBoundaries (boundaries_of tree) = rw (← c.self.view_is) at c.requires.boundaries in
    let most = rw (c.after-from.ensures.bound, c.before-to.ensures.bound, c.as_bytes.ensures.bytes, c.as_bytes-2.ensures.bytes) at
    c.greatest.ensures.most in
    let greatest = most_is_greatest tree.store.keys items kept c.args.range.now c.requires.filled are _ c.greatest.result (omega arith) most in
    rw (← c.self.view_is, to_z-of_z w64 c.greatest.result fits)
    (range_reached tree.store.keys items kept c.args.range.now c.requires.filled are c.greatest.result greatest)
