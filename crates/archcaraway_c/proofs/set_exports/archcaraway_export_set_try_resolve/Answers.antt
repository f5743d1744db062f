use Rattle.std.proofs.Common.{rules, ◌∙◌, length, take, subst}
use Rattle.conflict.specs.declared.when_full.WhenFull.TheVariants.{Refuse}
use Rattle.conflict.specs.ConflictSet.{SetState}
use Rattle.archcaraway_c.specs.SetObject.{IsReplied, SetRefuses}
use Rattle.archcaraway_c.proofs.set_exports.archcaraway_export_set_try_resolve.Goals as goal

pub returns-in-Ok-clause-replied : goal.returns-in-Ok-clause-replied
returns-in-Ok-clause-replied c = λ _.
    let r = c.in-Ok.ensures.resolved in
    subst (λ (set : SetState). IsReplied set c.args.frame.now (take c.in-Ok.length c.resolve-resolved.new.answer))
    (c.deref_mut.ensures.value ∙ c.into_box-set.ensures)
    (record {
      batch = r.batch;
      reply = r.replies.reply;
      asked = r.asked;
      answered = r.replies.answered;
      judged = r.replies.judged;
    })

pub returns-in-Err-clause-refused : goal.returns-in-Err-clause-refused
returns-in-Err-clause-refused c = λ _.
    let refusal = c.in-Err.refusal in (
      refusal,
      search rules,
      search rules,
      (
        c.resolve-resolved.new.self,
        subst (λ (set : SetState). SetRefuses Refuse set c.resolve-resolved.new.self c.args.frame.now (length c.args.answer.now) refusal)
            (c.deref_mut.ensures.value ∙ c.into_box-set.ensures) c.in-Err.ensures.refused,
      ),
    )
