use Rattle.boundaries.proofs.AnsweredKeys.{root_known, some_reached}
use Rattle.boundaries.proofs.Placing.{live_if_some}
use Rattle.boundaries.proofs.approach.find_approach.Goals as goal

pub descend-requires : goal.descend-requires
descend-requires c =
    let from = c.requires.asked.from in
    let can = from.searchable in record {
      asked = record { searchable = can; to = c.requires.asked.to.searchable.partitioned; some_below = some_reached from };
      hint = record {
        live = live_if_some c.args.store.now.nodes c.args.root.now.slot can.some;
        some = can.some;
        headed = can.headed;
        known = root_known from;
      };
    }
