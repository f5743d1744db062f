use Rattle.std.proofs.Common.{◌≡◌, ap, ◌∙◌}
use Rattle.std.proofs.lemmas.Result.{IfOk-weaker}
use Rattle.keyspace.specs.declared.batch.Batch.{Batch}
use Rattle.wire.specs.Fields.{batch_fields}
use Rattle.wire.specs.Lying.{batch_of_tables}
use Rattle.wire.proofs.batch.batch_of.Goals as goal

pub returns : goal.returns
returns c = record {
  fields = IfOk-weaker c.order.result _ (λ (batch : Batch). batch_fields batch ≡ batch_of_tables c.args.frame.items c.args.tables)
      (λ batch same. ap batch_fields same ∙ c.in_ok-batch.ensures.fields) c.order.ensures.batch;
}
