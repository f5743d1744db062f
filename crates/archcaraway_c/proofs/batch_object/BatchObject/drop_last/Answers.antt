use Rattle.std.proofs.Common.{arith, ◌≡◌, ◌-◌, List, length, take, ap, ◌∙◌}
use Rattle.keyspace.specs.storage.Fields.{TxnFields}
use Rattle.keyspace.specs.storage.Tables.{txns_of_tables}
use Rattle.keyspace.proofs.callers.Putting.{length-reported}
use Rattle.archcaraway_c.proofs.batch_object.BatchObject.drop_last.Goals as goal

pub returns : goal.returns
returns c =
    let old = c.self.inside.tables in
    let reported = txns_of_tables old.buffer.items old.spans.items old.rows.items in
    let count : length old.rows.items - 1 ≡ length reported - 1 =
    omega (arith, length-reported old.buffer.items old.spans.items 0 old.rows.items) in
    record {
      dropped = c.drop_last.ensures.reported ∙ ap (λ n. take n reported) count
          ∙ ap (λ (txns : List TxnFields). take (length txns - 1) txns) c.self.view_is;
    }
