use Rattle.replay_shards.proofs.NotedLists.{none_at, some_at}
use Rattle.replay_shards.proofs.noted_reply.NotedReply.indices.Goals as goal

pub returns-in-Some-clause-indices : goal.returns-in-Some-clause-indices
returns-in-Some-clause-indices c = λ within.
    some_at c.args.self.now c.in-Some.reads c.args.index c.indices_in.result.now c.in-Some.is c.indices_in.ensures.indices within

pub returns-in-None-clause-indices : goal.returns-in-None-clause-indices
returns-in-None-clause-indices c = λ within. none_at c.args.self.now c.args.index c.in-None.is within
