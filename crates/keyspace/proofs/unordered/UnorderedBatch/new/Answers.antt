use Rattle.keyspace.specs.storage.Tables.{txns_of_tables}
use Rattle.keyspace.proofs.FieldsBack.{fields_of_txns}
use Rattle.keyspace.proofs.unordered.UnorderedBatch.new.Goals as goal

pub returns-clause-txns : goal.returns-clause-txns
returns-clause-txns c =
    let tables = c.args.tables in
    fields_of_txns (txns_of_tables tables.buffer.items tables.spans.items tables.rows.items) _
