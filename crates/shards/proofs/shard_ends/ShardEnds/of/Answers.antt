use Rattle.std.proofs.Common.{◌∙◌}
use Rattle.shards.proofs.shard_ends.ShardEnds.of.Goals as goal

pub returns : goal.returns
returns c = record {
  shard = λ i. record {
    from = (c.new.ensures.key ∙ c.first_key.ensures.from) i;
    to = (c.headed.ensures.key ∙ c.end_if_any.ensures.to) i;
  };
}
