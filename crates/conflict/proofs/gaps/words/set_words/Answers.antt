use Rattle.std.proofs.Common.{rules}
use Rattle.conflict.proofs.GapsWords.{HasBit-put_mid}
use Rattle.conflict.proofs.gaps.words.set_words.Goals as goal

pub returns : goal.returns
returns c = record {
  set = λ bit.
      HasBit-put_mid c.args.words.now c.fill.new.self c.args.first c.args.last bit
      c.requires.ordered c.requires.within (search rules);
}
