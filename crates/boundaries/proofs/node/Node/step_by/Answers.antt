use Rattle.std.proofs.Common.{◌<◌, ◌-◌, filter, length, arith}
use Rattle.boundaries.proofs.Words.{NodeEntry, entries_of, is_below, order}
use Rattle.boundaries.proofs.HeadAt.{entry_at, all_known}
use Rattle.boundaries.proofs.HeadCounts.{passing_at, passing_inside}
use Rattle.boundaries.proofs.node.Node.step_by.Goals as goal
use Rattle.boundaries.proofs.node.Node.step_by.Goals.{After-lower_bound_by_head-index}

pub lower_bound_by_head-index-requires : goal.lower_bound_by_head-index-requires
lower_bound_by_head-index-requires c =
    let can = c.requires.can_step in
    let head = c.requires.head in
    let all = all_known _ c.args.self.now can.can_find.headed _ _ (order c.args.keys.now c.args.bound) c.args.common_prefix_len
    can.can_find.some can.known in
    record {
      can_find = can.can_find;
      head = head.head;
      none = (λ none. all (head.none none));
    }

-- the first entry is below the bound
some_below : (c : After-lower_bound_by_head-index) → 0 < c.lower_bound_by_head-index.result
some_below c =
    let can = c.requires.can_step in
    let es = entries_of c.args.self.now in
    let passes = λ (e : NodeEntry). is_below c.args.keys.now c.args.bound e.key in
    let first = entry_at es 0 can.can_find.some in
    let some = passing_inside passes es 0 first.0 can.can_find.partitioned first.1 (can.known first.0 first.1).0 in
    omega (arith, some, c.lower_bound_by_head-index.ensures.count.count_is)

pub overflow_sub-index : goal.overflow_sub-index
overflow_sub-index c = omega (arith, some_below (goal.at.overflow_sub-index c).After-lower_bound_by_head-index)

pub common_prefix_len_in-known-requires : goal.common_prefix_len_in-known-requires
common_prefix_len_in-known-requires c =
    let can = c.requires.can_step in
    let es = entries_of c.args.self.now in
    let passes = λ (e : NodeEntry). is_below c.args.keys.now c.args.bound e.key in
    let count = c.lower_bound_by_head-index.ensures.count in
    let some = some_below (goal.at.common_prefix_len_in-known-requires c).After-lower_bound_by_head-index in
    let i = c.lower_bound_by_head-index.result - 1 in
    let less : i < length (filter passes es) = omega (arith, some, count.count_is) in
    let inside : i < length es = omega (arith, less, count.count_is, count.within) in
    let below = λ (e : NodeEntry). passing_at passes es i e can.can_find.partitioned in
    record {
      can_step = can;
      within = inside;
      is_below = (λ e there. below e there less);
      head = c.requires.head;
    }
