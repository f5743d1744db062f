use Rattle.std.proofs.Common.{◌≡◌, ◌<◌, ℕ, List, length, All}
use Rattle.std.specs.Prelude.{Some, slice_get}
use Rattle.keyspace.specs.declared.reply.Entry.{Entry}
use Rattle.replay_shards.specs.Answers.{noted_in}
use Rattle.replay_shards.proofs.noted_reply.NotedReply.has_places.Given as goal

abbrev pub invariant-loop-index : goal.invariant-loop-index
invariant-loop-index l =
    (j : ℕ) (e : Entry) (indices : List ℕ) → j < l.index → slice_get (noted_in l.self).reply.entries j ≡ Some e
    → slice_get (noted_in l.self).reads j ≡ Some indices → All (λ place. place < length indices) e.places
