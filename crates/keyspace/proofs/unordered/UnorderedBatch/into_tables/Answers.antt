use Rattle.std.proofs.Common.{map, sym, ap, ◌∙◌}
use Rattle.keyspace.specs.declared.batch.Batch.{Batch}
use Rattle.keyspace.specs.storage.Fields.{txn_fields}
use Rattle.keyspace.specs.storage.Tables.{txns_of_tables}
use Rattle.keyspace.proofs.FieldsBack.{fields_of_txns}
use Rattle.keyspace.proofs.unordered.UnorderedBatch.into_tables.Goals as goal

pub returns : goal.returns
returns c =
    let b = c.self.inside in
    record {
      tables = b.tables;
      txns = sym (fields_of_txns (txns_of_tables b.buffer.items b.spans.items b.rows.items) b.tables.holds)
          ∙ ap (λ (x : Batch). map txn_fields x.txns) c.self.view_is;
    }
