use Rattle.std.proofs.Common.{◌≡◌, List, take, drop, map, length}
use Rattle.keyspace.specs.Writes.{Write}
use Rattle.stepmap.specs.Covers.{MapCovers}
use Rattle.conflict.specs.Lookup.{all_first, all_then, all_parts, AreAnswers}
use Rattle.conflict.specs.InBatch.{by_history}
use Rattle.conflict.proofs.history.judge_by_history.Given as goal

abbrev pub invariant-loop-index : goal.invariant-loop-index
invariant-loop-index l =
    (length l.entries.items ≡ l.index)
    × AreAnswers l.steps (all_first l.oldest (drop l.index l.batch.txns)) l.firsts
    × AreAnswers l.steps (all_then l.oldest (drop l.index l.batch.txns) l.firsts) l.others
    × (drop l.index l.parts.items ≡ all_parts l.oldest (drop l.index l.batch.txns) l.firsts)
    × (length l.parts.items ≡ length l.batch.txns)
    × ((ws : List Write) → MapCovers l.steps ws
    → l.entries.items ≡ map (by_history l.oldest ws) (take l.index l.batch.txns))
