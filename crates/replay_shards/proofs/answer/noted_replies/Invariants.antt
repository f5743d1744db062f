use Rattle.std.proofs.Common.{take, map, vec_items}
use Rattle.replay_shards.specs.Answers.{HaveReplied, noted_each}
use Rattle.replay_shards.specs.Notes.{first_notes}
use Rattle.replay_shards.proofs.answer.noted_replies.Given as goal

abbrev pub invariant-loop-shard : goal.invariant-loop-shard
invariant-loop-shard l =
    HaveReplied (take l.shard l.answers) (first_notes l.version (map vec_items (take l.shard l.notes))) (noted_each l.each.items)
