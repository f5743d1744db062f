use Rattle.std.proofs.Common.{◌≡◌, ◌≤◌, ℕ, List, [], length, take, drop}
use Rattle.keyspace.specs.declared.txn.Txn.{Txn}
use Rattle.shards.specs.Built.{AreLeft, IsBuilt}
use Rattle.shards.specs.Cut.{shard_of_ends}
use Rattle.shards.proofs.shard_tables.ShardTables.keep_all.Given as goal

abbrev pub invariant-loop-row : goal.invariant-loop-row
invariant-loop-row l = record {
  buffer : l.self.buffer ≡ l.fn.self.buffer;
  each :
      (m : ℕ) (txns : List Txn) → IsBuilt (shard_of_ends l.shard) m [] l.fn.self → length txns ≤ 4096
      → AreLeft l.fn.self.buffer.items l.spans 0 l.rows txns
      → IsBuilt (shard_of_ends l.shard) m (take l.row-index txns) l.self
      × AreLeft l.fn.self.buffer.items l.spans l.from (drop l.row-index l.rows) (drop l.row-index txns);
}
