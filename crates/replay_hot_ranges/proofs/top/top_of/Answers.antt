use Rattle.std.proofs.Common.{rules, sym, subst}
use Rattle.replay_hot_ranges.specs.RangeTally.{conflicts_at}
use Rattle.replay_hot_ranges.specs.Top.{IsTop}
use Rattle.replay_hot_ranges.proofs.Ranking.{top_from_sort_by}
use Rattle.replay_hot_ranges.proofs.top.top_of.Goals as goal

pub returns : goal.returns
returns c = record {
  top =
      subst (IsTop (conflicts_at c.args.tally.now) c.args.most) (sym c.truncate.ensures.items)
      (top_from_sort_by c.args.tally.now c.in_ok-ranges.ensures.ordered c.in_ok-ranges.ranges.items c.sort_by.new.self.items
      c.in_ok-ranges.ensures.all c.in_ok-sort_by.ensures.permutation c.in_ok-sort_by.ensures.sorted c.sort_by.ensures.stable c.args.most
      (λ a r f k. search rules));
}
