use Rattle.replay_hot_ranges.proofs.Noting.{none_counted, none_last}
use Rattle.replay_hot_ranges.proofs.tally.RangeTally.new.Goals as goal

pub returns : goal.returns
returns c = record {
  none = none_counted (record { counts = c.new.result }) c.new.ensures.empty;
  no_last = none_last (record { counts = c.new.result }) c.new.ensures.empty;
}
