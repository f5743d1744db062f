use Rattle.std.proofs.Common.{rules, ◌∙◌, subst}
use Rattle.archcaraway_c.specs.CoreObject.{CoreParts, CoreRefuses}
use Rattle.archcaraway_c.proofs.core_exports.archcaraway_export_core_admit.Goals as goal

pub returns-in-Err-clause-refused : goal.returns-in-Err-clause-refused
returns-in-Err-clause-refused c = λ _.
    let refusal = c.in-Err.refusal in
    let after = c.admit-admitted.new.self in (
      refusal,
      search rules,
      (
        after,
        subst (λ (parts : CoreParts). CoreRefuses parts after c.args.proxy c.args.frame.now refusal)
            (c.deref_mut.ensures.value ∙ c.into_box-core.ensures) c.in-Err.ensures.refused,
      ),
    )
