use Rattle.std.proofs.Common.{ℕ, List, length, take, subst}
use Rattle.std.specs.Prelude.{IfOk, IfErr}
use Rattle.archcaraway_c.specs.declared.refusal.Refusal.{Refusal}
use Rattle.archcaraway_c.specs.ShardFrames.{IsClippedFrame, ClipRefuses}
use Rattle.archcaraway_c.proofs.points_object.PointsObject.clip.Goals as goal

pub returns-clause-clipped : goal.returns-clause-clipped
returns-clause-clipped c =
    subst (λ (points : List (List ℕ)). IfOk c.clip_frame.result (λ (count : ℕ).
    IsClippedFrame points c.args.shard c.args.frame.now (take count c.clip_frame.new.buffer)))
    c.self.view_is c.clip_frame.ensures.clipped

pub returns-clause-refused : goal.returns-clause-refused
returns-clause-refused c =
    subst (λ (points : List (List ℕ)). IfErr c.clip_frame.result (λ (refusal : Refusal).
    ClipRefuses points c.args.shard c.args.frame.now (length c.args.clip.now) refusal))
    c.self.view_is c.clip_frame.ensures.refused
