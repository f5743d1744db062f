use Rattle.std.proofs.Common.{◌≡◌, map, take}
use Rattle.keyspace.specs.storage.Fields.{txn_fields}
use Rattle.keyspace.specs.storage.Tables.{txns_of_tables, AreTables}
use Rattle.keyspace.proofs.tables.Tables.of.Given as goal

abbrev pub invariant-loop-txn : goal.invariant-loop-txn
invariant-loop-txn l = record {
  tables : AreTables l.tables.buffer.items l.tables.spans.items l.tables.rows.items;
  reported : txns_of_tables l.tables.buffer.items l.tables.spans.items l.tables.rows.items ≡ map txn_fields (take l.txn-index l.txns);
}
