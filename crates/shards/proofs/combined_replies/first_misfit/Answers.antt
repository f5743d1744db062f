use Rattle.std.proofs.Common.{List, subst, take_all, All}
use Rattle.std.proofs.lemmas.List.Elements.{All-more}
use Rattle.shards.specs.Combined.{Fits}
use Rattle.shards.specs.declared.shard_reply.ShardReply.{ShardReply}
use Rattle.shards.proofs.combined_replies.first_misfit.Goals as goal

pub loop-shard-preserved : goal.loop-shard-preserved
loop-shard-preserved c =
    All-more (Fits c.args.batch.now) c.args.each.now c.loop-shard.shard c.index-each-shard.result c.loop-shard-test.true
    c.loop-shard.invariant (subst (Fits c.args.batch.now) c.index-each-shard.is c.in_default.ensures.cause)

pub returns : goal.returns
returns c = record {
  first = subst (λ (each : List ShardReply). All (Fits c.args.batch.now) each)
      (take_all c.loop-shard.shard c.args.each.now c.loop-shard-test.false) c.loop-shard.invariant;
}
