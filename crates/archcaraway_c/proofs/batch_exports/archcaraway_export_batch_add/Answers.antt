use Rattle.std.proofs.Common.{rules, ◌∙◌, ℤ, List, FitsSigned, w64, subst₂}
use Rattle.std.proofs.lemmas.Int.{to_z-of_z}
use Rattle.keyspace.specs.storage.Fields.{TxnFields}
use Rattle.archcaraway_c.specs.BatchObject.{AddRefuses}
use Rattle.archcaraway_c.proofs.batch_exports.archcaraway_export_batch_add.Goals as goal

pub returns-in-Err : goal.returns-in-Err
returns-in-Err c =
    let fits : FitsSigned w64 c.args.snapshot = search rules in
    record {
      refused = λ _. (
        c.in-Err.refusal,
        search rules,
        subst₂ (λ (txns : List TxnFields) (snapshot : ℤ). AddRefuses txns snapshot c.args.keys.now c.args.reads.now
            c.args.writes.now c.in-Err.refusal) (c.deref_mut.ensures.value ∙ c.into_box-batch.ensures)
            (to_z-of_z w64 c.args.snapshot fits) c.in-Err.ensures.refused,
      );
    }
