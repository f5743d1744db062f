use Rattle.boundaries.proofs.Words.{order}
use Rattle.boundaries.proofs.HeadAt.{all_known}
use Rattle.boundaries.proofs.KeyBytes.{first_common}
use Rattle.boundaries.proofs.node.Node.lower_bound.Goals as goal

pub head_for-head-requires : goal.head_for-head-requires
head_for-head-requires c =
    let can = c.requires.can_step in
    record {
      headed = can.can_find.headed;
      common_prefix_len = first_common c.args.keys.now c.args.bound c.args.self.now c.args.common_prefix_len can;
    }

pub lower_bound_by_head-requires : goal.lower_bound_by_head-requires
lower_bound_by_head-requires c =
    let can = c.requires.can_step in
    let head = c.head_for-head.ensures.head in
    let all = all_known _ c.args.self.now can.can_find.headed _ _ (order c.args.keys.now c.args.bound) c.args.common_prefix_len
    can.can_find.some can.known in
    record {
      can_find = can.can_find;
      head = head.head;
      none = (λ none. all (head.none none));
    }
