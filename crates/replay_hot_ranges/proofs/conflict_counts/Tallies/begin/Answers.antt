use Rattle.std.proofs.Common.{◌≡◌, ◌+◌, arith}
use Rattle.replay_hot_ranges.specs.Counts.{read_side, written_side}
use Rattle.replay_hot_ranges.proofs.Noting.{begun}
use Rattle.replay_hot_ranges.proofs.conflict_counts.Tallies.begin.Goals as goal

pub returns-in-Some : goal.returns-in-Some
returns-in-Some c =
    let n = c.args.self.now.txn_count in
    let one_more : c.in-Some.txn_count ≡ n + 1 = omega arith in
    record {
      begun = λ txns before. (
        begun read_side txns n c.in-Some.txn_count c.args.self.now.reads one_more before.0,
        begun written_side txns n c.in-Some.txn_count c.args.self.now.writes one_more before.1,
      );
    }
