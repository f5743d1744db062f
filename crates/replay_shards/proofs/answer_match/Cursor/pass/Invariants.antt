use Rattle.std.proofs.Common.{◌≡◌, ◌-◌, vec_len}
use Rattle.replay_shards.specs.Matching.{left_in, without_earlier}
use Rattle.replay_shards.proofs.answer_match.Cursor.pass.Given as goal

abbrev pub invariant-loop-self : goal.invariant-loop-self
invariant-loop-self l = without_earlier l.version (left_in l.self) ≡ without_earlier l.version (left_in l.initial.self)

abbrev pub decreases-loop-self : goal.decreases-loop-self
decreases-loop-self l = vec_len l.self.answers - l.self.next
