use Rattle.std.proofs.Common.{arith}
use Rattle.lane.proofs.RingRule.{looks_at_head}
use Rattle.lane.proofs.port.look.Goals as goal

pub load-counts-requires : goal.load-counts-requires
load-counts-requires g c =
    let token = c.requires.port.token_of in
    (token.ring_of, omega (arith, token.words), looks_at_head _ _ _ c.requires.port.counted.sends)
