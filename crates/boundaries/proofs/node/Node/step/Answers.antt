use Rattle.boundaries.proofs.KeyBytes.{first_common}
use Rattle.boundaries.proofs.node.Node.step.Goals as goal

pub head_for-head-requires : goal.head_for-head-requires
head_for-head-requires c =
    let can = c.requires.can_step in
    record {
      headed = can.can_find.headed;
      common_prefix_len = first_common c.args.keys.now c.args.bound c.args.self.now c.args.common_prefix_len can;
    }
