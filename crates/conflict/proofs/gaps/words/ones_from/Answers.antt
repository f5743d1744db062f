use Rattle.conflict.proofs.GapsWords.{bit_at-shl_ones}
use Rattle.conflict.proofs.gaps.words.ones_from.Goals as goal

pub returns : goal.returns
returns c = record { bits = λ bit small. bit_at-shl_ones c.args.low bit c.requires.low small }
