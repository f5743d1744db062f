use Rattle.std.proofs.Common.{arith}
use Rattle.lane.proofs.RingRule.{joins}
use Rattle.lane.proofs.ring.joined_tokens.join.Goals as goal

pub join_seat-requires : goal.join_seat-requires
join_seat-requires g c =
    let tokens = c.requires.tokens in (
      tokens.0.ring_of,
      tokens.1.ring_of,
      tokens.1.no_slot,
      omega (arith, tokens.0.words),
      joins _ _ _ _ c.requires.roles.0 c.requires.roles.1,
    )
