use Rattle.std.proofs.Common.{rules, ◌∙◌, ℕ, List, length, take, subst}
use Rattle.archcaraway_c.specs.ShardFrames.{IsClippedFrame, ClipRefuses}
use Rattle.archcaraway_c.proofs.shard_exports.archcaraway_export_clip.Goals as goal

pub returns-in-Ok-clause-clipped : goal.returns-in-Ok-clause-clipped
returns-in-Ok-clause-clipped c = λ _.
    subst (λ (points : List (List ℕ)). IsClippedFrame points c.args.shard c.args.frame.now (take c.in-Ok.length c.clip-clipped.new.clip))
    (c.deref.ensures ∙ c.into_box-points.ensures) c.in-Ok.ensures.clipped

pub returns-in-Err-clause-refused : goal.returns-in-Err-clause-refused
returns-in-Err-clause-refused c = λ _.
    let refusal = c.in-Err.refusal in (
      refusal,
      search rules,
      search rules,
      subst (λ (points : List (List ℕ)). ClipRefuses points c.args.shard c.args.frame.now (length c.args.clip.now) refusal)
          (c.deref.ensures ∙ c.into_box-points.ensures) c.in-Err.ensures.refused,
    )
