use Rattle.std.proofs.Common.{◌≡◌, ◌<◌, ℕ, List, length, All}
use Rattle.std.specs.Prelude.{Some, slice_get}
use Rattle.keyspace.specs.declared.reply.Entry.{Entry}
use Rattle.shards.proofs.shard_reply.ShardReply.has_places.Given as goal

abbrev pub invariant-loop-index : goal.invariant-loop-index
invariant-loop-index l =
    (j : ℕ) (e : Entry) (indices : List ℕ) → j < l.index → slice_get l.self.reply.entries j ≡ Some e
    → slice_get l.self.reads j ≡ Some indices → All (λ place. place < length indices) e.places
