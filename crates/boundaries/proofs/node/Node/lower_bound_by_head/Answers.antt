use Rattle.std.proofs.Common.{arith}
use Rattle.boundaries.proofs.Words.{order}
use Rattle.boundaries.proofs.HeadAt.{filled_within, few_below}
use Rattle.boundaries.proofs.node.Node.lower_bound_by_head.Goals as goal

pub lower_bound_from-requires-2 : goal.lower_bound_from-requires-2
lower_bound_from-requires-2 c =
    let is = rw c.in-Some.is at c.requires.head in
    let within = filled_within _ node can.headed (omega arith) c.heads_below-below.result describes.within describes.filled in
    let least = few_below _ node can.headed _ _ (order c.args.keys.now c.args.bound) c.in-Some.own is can.partitioned
    c.heads_below-below.result within describes.below in
    record {
      can_find = can;
      head = is;
      least = least;
    }
  where
    open c use {args.{self.{now as node}}, requires.{can_find as can}, heads_below-below.{ensures as describes}}
