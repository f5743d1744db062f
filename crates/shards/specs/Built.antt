-- The tables of a shard while a batch is clipped to it.
use Rattle.std.specs.Prelude.{
  ◌≡◌,
  ℕ,
  ◌+◌,
  ◌≤◌,
  true,
  if◌then◌else◌,
  List,
  [],
  length,
  map,
  filter,
  Option,
  Some,
  None,
}
use Rattle.keys.specs.declared.range.Range.{Range}
use Rattle.keys.specs.Key.{IsKey, is_before}
use Rattle.keyspace.specs.declared.txn.Txn.{Txn}
use Rattle.keyspace.specs.declared.span.Span.{Span}
use Rattle.keyspace.specs.declared.row.Row.{Row}
use Rattle.keyspace.specs.storage.Fields.{RangeFields, TxnFields, txn_fields}
use Rattle.keyspace.specs.storage.Tables.{bytes_at, txns_from, txns_of_tables, AreRows, AreTables}
use Rattle.serial.specs.Shards.{Shard, ends_above}
use Rattle.shards.specs.Clips.{goes_to, read_indices}
use Rattle.shards.specs.Reach.{ends_below}
use Rattle.shards.specs.ReadIndices.{parts_from, AreIndices}
use Rattle.shards.specs.declared.shard_bounds.KeyAt.{KeyAt}
use Rattle.shards.specs.declared.shard_bounds.Bounds.{Bounds}
use Rattle.shards.specs.declared.shard_tables.ShardTables.{ShardTables}

-- the end of a shard, or the empty key
abbrev pub end_or_empty : Option (List ℕ) → List ℕ
end_or_empty None = []
end_or_empty (Some to) = to

-- the shard has keys, and its ends are keys of limited length
pub record IsProper (shard : Shard) : Type 0 where
  pub from : IsKey shard.from
  pub to : IsKey (end_or_empty shard.to)
  pub some : ends_above shard.to shard.from ≡ true

-- the key lies in the buffer there
pub record LiesAt (buffer : List ℕ) (at : KeyAt) (key : List ℕ) : Type 0 where
  pub within : at.begin + at.length ≤ length buffer
  pub bytes : bytes_at buffer at.begin at.length ≡ key

-- the ends of the shard lie in the buffer
pub record HasBounds (shard : Shard) (m : ℕ) (buffer : List ℕ) (bounds : Bounds) : Type 0 where
  pub number : bounds.shard ≡ m
  pub from : LiesAt buffer bounds.from shard.from
  pub to : LiesAt buffer bounds.to (end_or_empty shard.to)

-- the later begin and the earlier end
abbrev pub clip_fields : Shard → Range → RangeFields
clip_fields shard range = record {
  begin = if is_before range.begin shard.from then shard.from else range.begin;
  end = if ends_below shard.to range.end then end_or_empty shard.to else range.end;
}

-- of those ranges that go to the shard
abbrev pub clips_of : Shard → List Range → List RangeFields
clips_of shard ranges = map (clip_fields shard) (filter (goes_to shard) ranges)

abbrev pub clip_txn : Shard → Txn → TxnFields
clip_txn shard t = record {
  snapshot = t.snapshot;
  marked = t.marked;
  reads = clips_of shard t.reads;
  writes = clips_of shard t.writes;
}

-- the tables have the clips of the transactions
pub record IsBuilt (shard : Shard) (m : ℕ) (txns : List Txn) (tables : ShardTables) : Type 0 where
  pub proper : IsProper shard
  pub bounds : HasBounds shard m tables.buffer.items tables.bounds
  pub fit : AreTables tables.buffer.items tables.spans.items tables.rows.items
  pub reported : txns_of_tables tables.buffer.items tables.spans.items tables.rows.items ≡ map (clip_txn shard) txns
  pub indices : AreIndices tables.indices.items tables.ends.items
  pub reads : parts_from 0 tables.indices.items tables.ends.items ≡ map (read_indices shard) txns

-- From an index of the spans on, the rows are those of these transactions.
pub record AreLeft (buffer : List ℕ) (spans : List Span) (from : ℕ) (rows : List Row) (txns : List Txn) : Type 0 where
  pub reported : txns_from buffer spans from rows ≡ map txn_fields txns
  pub fit : AreRows from rows (length spans)
