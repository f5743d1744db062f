-- How the read ranges of a clipped batch are numbered, without the batch.
use Rattle.std.specs.Prelude.{◌≡◌, ℕ, List, map}
use Rattle.keyspace.specs.declared.batch.Batch.{Batch}
use Rattle.serial.specs.Shards.{Shard}
use Rattle.shards.specs.Clips.{read_indices}

-- for each transaction of the batch, the indices of those of its read ranges that go to the shard: as `IsClipped` says beside a clip
abbrev pub AreNumbered : Shard → Batch → List (List ℕ) → Type 0
AreNumbered shard b reads = reads ≡ map (read_indices shard) b.txns
