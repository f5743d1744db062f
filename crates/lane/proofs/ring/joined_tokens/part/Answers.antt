use Rattle.std.proofs.Common.{arith}
use Rattle.lane.proofs.RingRule.{parts}
use Rattle.lane.proofs.ring.joined_tokens.part.Goals as goal

pub split_seat-requires : goal.split_seat-requires
split_seat-requires g c =
    let token = c.requires.token in
    (token.ring_of, omega (arith, token.words), parts _ _ c.requires.roles.1 c.requires.roles.0)
