-- What a frame says: ranges, transactions, batches, entries and replies, without the facts that their types carry.
use Rattle.std.specs.Prelude.{ℕ, ℤ, List, map}
pub use Rattle.keyspace.specs.storage.Fields.{RangeFields, TxnFields, range_fields, txn_fields}
use Rattle.keyspace.specs.declared.batch.Batch.{Batch}
use Rattle.keyspace.specs.declared.reply.Verdict.{Verdict}
use Rattle.keyspace.specs.declared.reply.Entry.{Entry}
use Rattle.keyspace.specs.declared.reply.Reply.{Reply}

pub record BatchFields : Type 0 where
  pub previous : ℤ
  pub version : ℤ
  pub received : ℤ
  pub txns : List TxnFields

abbrev pub batch_fields : Batch → BatchFields
batch_fields batch = record {
  previous = batch.previous;
  version = batch.version;
  received = batch.received;
  txns = map txn_fields batch.txns;
}

pub record EntryFields : Type 0 where
  pub verdict : Verdict
  pub places : List ℕ

pub record ReplyFields : Type 0 where
  pub version : ℤ
  pub entries : List EntryFields

abbrev pub entry_fields : Entry → EntryFields
entry_fields entry = record { verdict = entry.verdict; places = entry.places }

abbrev pub reply_fields : Reply → ReplyFields
reply_fields reply = record { version = reply.version; entries = map entry_fields reply.entries }
