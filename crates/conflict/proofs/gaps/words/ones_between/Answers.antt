use Rattle.std.proofs.Common.{rules}
use Rattle.conflict.proofs.GapsWords.{bit_at-and_not}
use Rattle.conflict.proofs.gaps.words.ones_between.Goals as goal

pub returns : goal.returns
returns c = record {
  bits = λ bit small.
      bit_at-and_not c.ones_from.result c.ones_from-2.result c.args.low c.args.high bit (search rules) small
      (c.ones_from.ensures.bits bit small) (c.ones_from-2.ensures.bits bit small);
}
