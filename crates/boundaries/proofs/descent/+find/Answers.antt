use Rattle.std.proofs.Common.{rules, ℕ, ◌≤◌, ◌∙◌, refl, arith}
use Rattle.boundaries.proofs.Words.{HALF_FULL, entries_of, is_below, key_at}
use Rattle.boundaries.proofs.Found.{IsFound, found, found_subtree, found_partitioned, found_leaf}
use Rattle.boundaries.proofs.FirstKeys.{known_below, some_below}
use Rattle.boundaries.proofs.Looks.{can_step_at}
use Rattle.boundaries.proofs.Keys.{key_after_child}
use Rattle.boundaries.proofs.descent.+find.Goals as goal
use Rattle.boundaries.proofs.descent.+find.Goals.{After-child}

pub step-step-requires : goal.step-step-requires
step-step-requires t c =
    let can = c.requires.can_search in
    search (rules, can_step_at c.args.store.now c.args.bound can.searchable c.header_ref-node.ensures.header can.known)

-- the child at which the search goes on
child_found : (t : ℕ) (c : After-child t)
    → IsFound c.args.store.now.nodes HALF_FULL c.args.height c.args.position.slot
    (is_below c.args.store.now.keys c.args.bound) c.child.result.slot
child_found t c =
    let can = c.requires.can_search.searchable in
    found _ _ c.args.height c.args.position.slot _ c.header_ref-node.result.now (entries_of c.header_ref-node.result.now)
    c.step-step.result.index c.child.result.slot c.if-height-eq0.false can.subtree can.partitioned
    c.header_ref-node.ensures.header refl c.step-step.ensures.step.index_is c.child.ensures.child.slot

pub find-requires : goal.find-requires
find-requires t c =
    let some : 1 ≤ HALF_FULL = omega arith in
    let f = child_found t (goal.at.find-requires t c).After-child in
    let known = known_below _ _ _ _ _ _ f (key_at c.args.store.now.keys) c.args.bound.key.now _ c.header_ref-node.result.now
    c.step-step.result.index c.header_ref-node.ensures.header c.step-step.ensures.step.index_is c.step-step.ensures.step.knows in
    let known = rw (← c.child.ensures.child.known) at known in
    search (rules, known, found_subtree _ _ _ _ _ _ f, some_below _ _ _ _ _ _ f some, found_partitioned _ _ _ _ _ _ f)

pub returns : goal.returns
returns t c =
    let f = child_found t (goal.at.returns t c).After-child in
    let found = c.find.ensures.found in
    record {
      found = record {
        leaf = found_leaf _ _ _ _ _ _ f _ found.leaf;
        known = found.known;
        some = found.some;
        following = found.following
            ∙ key_after_child _ _ _ _ _ _ f c.header_ref-node.result.now (entries_of c.header_ref-node.result.now)
            c.step-step.result.index c.args.position.following c.child.result.following c.header_ref-node.ensures.header refl
            c.step-step.ensures.step.index_is c.child.ensures.child.following;
      };
    }
