use Rattle.std.proofs.Common.{List, FitsSigned, w64, map, sym, ap, ◌∙◌, rules, arith}
use Rattle.std.proofs.lemmas.Int.{to_z-of_z}
use Rattle.keyspace.specs.declared.txn.Txn.{Txn}
use Rattle.keyspace.specs.storage.Fields.{txn_fields}
use Rattle.keyspace.specs.storage.Tables.{txns_of_tables}
use Rattle.keyspace.proofs.FieldsBack.{fields_of_txns}
use Rattle.keyspace.proofs.RowsInTurn.{length-reported}
use Rattle.keyspace.proofs.callers.SameFields.{same_batch}
use Rattle.keyspace.proofs.unordered.UnorderedBatch.order.Goals as goal

pub from_tables-requires : goal.from_tables-requires
from_tables-requires c =
    let b = c.self.inside in
    record {
      tables = b.tables;
      few = omega (arith, b.few, length-reported b.buffer.items b.spans.items 0 b.rows.items, b.rows.ok.0);
    }

pub returns : goal.returns
returns c =
    let b = c.self.inside in
    let previous : FitsSigned w64 b.previous = search rules in
    let version : FitsSigned w64 b.version = search rules in
    let received : FitsSigned w64 b.received = search rules in
    record {
      batch = same_batch c.new.result _ (c.new.ensures.previous ∙ to_z-of_z w64 b.previous previous)
          (c.new.ensures.version ∙ to_z-of_z w64 b.version version) (c.new.ensures.received ∙ to_z-of_z w64 b.received received)
          (ap (λ (txns : List Txn). map txn_fields txns) c.new.ensures.txns ∙ c.in_ok-txns.ensures.fields
          ∙ sym (fields_of_txns (txns_of_tables b.buffer.items b.spans.items b.rows.items) b.tables.holds))
          ∙ c.self.view_is;
    }
