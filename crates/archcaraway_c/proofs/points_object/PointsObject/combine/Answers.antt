use Rattle.std.proofs.Common.{ℕ, List, length, take, subst}
use Rattle.std.specs.Prelude.{IfOk, IfErr}
use Rattle.archcaraway_c.specs.declared.combine_refusal.CombineRefusal.{CombineRefusal}
use Rattle.archcaraway_c.specs.ShardFrames.{IsCombinedFrame, CombineRefuses}
use Rattle.archcaraway_c.proofs.points_object.PointsObject.combine.Goals as goal

pub returns-clause-combined : goal.returns-clause-combined
returns-clause-combined c =
    subst (λ (points : List (List ℕ)). IfOk c.combine_frames.result (λ (count : ℕ).
    IsCombinedFrame points c.args.frame.now c.args.replies.now (take count c.combine_frames.new.buffer)))
    c.self.view_is c.combine_frames.ensures.combined

pub returns-clause-refused : goal.returns-clause-refused
returns-clause-refused c =
    subst (λ (points : List (List ℕ)). IfErr c.combine_frames.result (λ (refusal : CombineRefusal).
    CombineRefuses points c.args.frame.now c.args.replies.now (length c.args.answer.now) refusal))
    c.self.view_is c.combine_frames.ensures.refused
