use Rattle.std.proofs.Common.{arith}
use Rattle.lane.proofs.RingRule.{looks_at_tail}
use Rattle.lane.proofs.intake.look.Goals as goal

pub load-tail-requires : goal.load-tail-requires
load-tail-requires g c =
    let intake = c.requires.intake in
    (intake.token_of.ring_of, omega (arith, intake.token_of.words), looks_at_tail _ _ _ intake.counted.takes)
