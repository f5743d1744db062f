use Rattle.std.proofs.Common.{rules, ◌∙◌, ℕ, List, length, take, ap, subst}
use Rattle.serial.specs.Shards.{shards}
use Rattle.archcaraway_c.specs.ShardFrames.{IsCombinedFrame, CombineRefuses, bad_shard}
use Rattle.archcaraway_c.proofs.shard_exports.archcaraway_export_combine.Goals as goal

pub returns-in-Ok-clause-combined : goal.returns-in-Ok-clause-combined
returns-in-Ok-clause-combined c = λ _.
    subst (λ (points : List (List ℕ)). IsCombinedFrame points c.args.frame.now c.args.replies.now
    (take c.in-Ok.length c.combine-combined.new.answer))
    (c.deref-2.ensures ∙ c.into_box-points.ensures) c.in-Ok.ensures.combined

pub returns-in-Err-clause-refused : goal.returns-in-Err-clause-refused
returns-in-Err-clause-refused c = λ _.
    let refusal = c.in-Err.refusal in (
      refusal,
      search rules,
      search rules,
      c.bad_shard.ensures.bad
          ∙ ap (λ (n : ℕ). bad_shard n refusal)
          (c.shards-count.ensures.count ∙ ap (λ (points : List (List ℕ)). length (shards points)) (c.deref.ensures ∙ c.into_box-points.ensures)),
      subst (λ (points : List (List ℕ)). CombineRefuses points c.args.frame.now c.args.replies.now (length c.args.reply.now) refusal)
          (c.deref-2.ensures ∙ c.into_box-points.ensures) c.in-Err.ensures.refused,
    )
