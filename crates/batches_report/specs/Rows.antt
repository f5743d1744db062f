-- How the transactions of a batch were judged, counted. This project's own.
use Rattle.std.specs.Prelude.{ℕ, List, length, count_by}
use Rattle.keyspace.specs.declared.batch.Batch.{Batch}
use Rattle.keyspace.specs.declared.reply.Reply.{Reply}
use Rattle.batches_report.specs.JudgedTxns.{is_conflict, is_reported, is_too_old}
use Rattle.batches_report.specs.declared.row.TxnRow.{TxnRow}

abbrev pub row_of : Batch → Reply → TxnRow
row_of b r = record {
  version = b.version;
  txns = length b.txns;
  conflicts = count_by is_conflict r.entries;
  too_old = count_by is_too_old r.entries;
  reported = count_by is_reported r.entries;
}
