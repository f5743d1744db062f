use Rattle.std.proofs.Common.{rules, ◌∙◌, ℤ, List, FitsSigned, w64, to_z, of_z, subst, subst₂}
use Rattle.std.proofs.lemmas.Int.{to_z-of_z}
use Rattle.keyspace.specs.storage.Fields.{TxnFields}
use Rattle.archcaraway_c.specs.CoreObject.{CoreParts}
use Rattle.archcaraway_c.specs.Judging.{AdmitRefuses}
use Rattle.archcaraway_c.proofs.judge_exports.archcaraway_export_core_admit_batch.Goals as goal

pub returns-in-Err-clause-refused : goal.returns-in-Err-clause-refused
returns-in-Err-clause-refused c = λ _.
    let refusal = c.in-Err.refusal in
    let after = c.admit_batch-admitted.new.self in
    let previous : FitsSigned w64 c.args.previous = search rules in
    let version : FitsSigned w64 c.args.version = search rules in
    let received : FitsSigned w64 c.args.received = search rules in
    let txns = c.args.batch.value in
    let refused = subst₂ (λ (parts : CoreParts) (txns : List TxnFields). AdmitRefuses parts after c.args.proxy
    (to_z w64 (of_z w64 c.args.previous)) (to_z w64 (of_z w64 c.args.version)) (to_z w64 (of_z w64 c.args.received)) txns
    refusal)
    (c.deref_mut.ensures.value ∙ c.into_box-core.ensures) (c.deref.ensures ∙ c.into_box-batch.ensures)
    c.in-Err.ensures.refused in (
      refusal,
      search rules,
      (
        after,
        subst (λ (p : ℤ). AdmitRefuses c.args.core.value after c.args.proxy p c.args.version c.args.received txns refusal)
            (to_z-of_z w64 c.args.previous previous)
            (subst₂ (λ (v r : ℤ). AdmitRefuses c.args.core.value after c.args.proxy (to_z w64 (of_z w64 c.args.previous)) v r
            txns refusal)
            (to_z-of_z w64 c.args.version version) (to_z-of_z w64 c.args.received received) refused),
      ),
    )
