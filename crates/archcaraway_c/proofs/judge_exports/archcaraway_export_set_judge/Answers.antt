use Rattle.std.proofs.Common.{rules, ◌∙◌, ℤ, List, length, take, FitsSigned, w64, to_z, of_z, subst, subst₂}
use Rattle.std.proofs.lemmas.Int.{to_z-of_z}
use Rattle.keyspace.specs.storage.Fields.{TxnFields}
use Rattle.conflict.specs.ConflictSet.{SetState}
use Rattle.archcaraway_c.specs.Judging.{AreVerdicts}
use Rattle.archcaraway_c.proofs.judge_exports.archcaraway_export_set_judge.Goals as goal

pub returns-in-Ok-clause-judged : goal.returns-in-Ok-clause-judged
returns-in-Ok-clause-judged c = λ _.
    let r = c.in-Ok.ensures.judged in
    let version : FitsSigned w64 c.args.version = search rules in
    subst (λ (v : ℤ). AreVerdicts c.args.set.value v c.args.batch.value
    (take (length c.args.batch.value) c.judge-judged.new.verdicts)) (to_z-of_z w64 c.args.version version)
    (subst₂ (λ (set : SetState) (txns : List TxnFields). AreVerdicts set (to_z w64 (of_z w64 c.args.version)) txns
    (take (length txns) c.judge-judged.new.verdicts))
    (c.deref_mut.ensures.value ∙ c.into_box-set.ensures) (c.deref.ensures ∙ c.into_box-batch.ensures)
    (record {
      batch = r.batch;
      reply = r.judges.reply;
      asked = r.asked;
      answered = r.judges.answered;
      judged = r.judges.judged;
    }))
