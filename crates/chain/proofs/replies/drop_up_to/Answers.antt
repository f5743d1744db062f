use Rattle.std.proofs.Common.{◌∙◌}
use Rattle.chain.proofs.KeptKeys.{IsFiled-dropped, apart_from_up_to}
use Rattle.chain.proofs.replies.drop_up_to.Goals as goal

pub loop-key-preserved-in-Some : goal.loop-key-preserved-in-Some
loop-key-preserved-in-Some c = record {
  filed = IsFiled-dropped c.loop-key.kept c.remove.new.self _ c.remove.ensures.updates.0
      c.loop-key.invariant.filed;
  others = λ q beyond. c.remove.ensures.updates.2 q
      (apart_from_up_to _ _ c.in-Some.key q c.in-Some.ensures.up_to beyond)
      ∙ c.loop-key.invariant.others q beyond;
}
