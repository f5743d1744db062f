use Rattle.replay_hot_ranges.proofs.Listing.{all_if_fewer, none_is_twice, others_are_at_most}
use Rattle.replay_hot_ranges.proofs.laws.greatest_counts_are_listed.Goals as goal

pub returns : goal.returns
returns c = record { others = others_are_at_most; once = none_is_twice; all = all_if_fewer }
