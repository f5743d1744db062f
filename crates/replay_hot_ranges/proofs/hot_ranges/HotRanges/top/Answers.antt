use Rattle.std.proofs.Common.{ℕ, subst}
use Rattle.replay_hot_ranges.specs.Counts.{Ends}
use Rattle.replay_hot_ranges.specs.Top.{IsTop}
use Rattle.replay_hot_ranges.proofs.hot_ranges.HotRanges.top.Goals as goal

pub returns : goal.returns
returns c = record {
  top = λ ps seen chain.
      let counted = seen c.if-self.false chain in record {
        reads =
            subst (λ (count : Ends → ℕ). IsTop count c.args.most c.in_ok-top_of.field-0.items) (λ i ends. counted.tallies.0.counts ends i)
            c.in_ok-top_of.ensures.top;
        writes =
            subst (λ (count : Ends → ℕ). IsTop count c.args.most c.in_ok-top_of-2.field-0.items) (λ i ends. counted.tallies.1.counts ends i)
            c.in_ok-top_of-2.ensures.top;
      };
}
