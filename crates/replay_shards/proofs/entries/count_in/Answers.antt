use Rattle.std.proofs.Common.{◌∙◌, sym}
use Rattle.replay_shards.specs.Answers.{FitsIn}
use Rattle.replay_shards.proofs.NotedLists.{of_one}
use Rattle.replay_shards.proofs.entries.count_in.Goals as goal

pub returns-clause-count : goal.returns-clause-count
returns-clause-count c = λ n all.
    c.len.ensures.count ∙ (of_one (FitsIn n) c.args.each.now 0 c.in-Some.first.now (sym c.in-Some.ensures.value) all).entries
