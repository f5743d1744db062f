use Rattle.std.proofs.Common.{◌≡◌, List, ap, map, ◌∙◌}
use Rattle.std.proofs.lemmas.Result.{IfOk-weaker}
use Rattle.keyspace.specs.declared.txn.Txn.{Txn}
use Rattle.keyspace.specs.storage.Fields.{txn_fields}
use Rattle.keyspace.proofs.callers.SameFields.{same_txns}
use Rattle.keyspace.proofs.txns.Txns.new.Goals as goal

pub returns : goal.returns
returns c =
    let reported = c.in_ok-tables.ensures.reported ∙ ap (map txn_fields) c.deref.ensures.value in
    record {
      txns = IfOk-weaker c.from_tables.result _ (λ (kept : List Txn). kept ≡ c.args.txns.items)
          (λ kept fields. same_txns kept c.args.txns.items (fields ∙ reported)) c.from_tables.ensures.fields;
    }
