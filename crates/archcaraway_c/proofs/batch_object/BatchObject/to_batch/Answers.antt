use Rattle.std.proofs.Common.{arith, ap, length}
use Rattle.std.proofs.lemmas.List.{length-map}
use Rattle.keyspace.specs.storage.Fields.{txn_fields}
use Rattle.keyspace.proofs.callers.Putting.{length-reported}
use Rattle.archcaraway_c.proofs.batch_object.BatchObject.to_batch.Goals as goal

pub new-requires-clause-few : goal.new-requires-clause-few
new-requires-clause-few c =
    let tables = c.self.inside.tables in
    omega (
      arith,
      c.self.invariant.1,
      tables.rows.ok.0,
      ap length c.self.view_is,
      ap length c.in_ok-txns.ensures.txns,
      length-map c.in_ok-txns.txns txn_fields,
      length-reported tables.buffer.items tables.spans.items 0 tables.rows.items,
    )
