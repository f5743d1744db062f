use Rattle.conflict.proofs.GapsWords.{HasBit-set_or}
use Rattle.conflict.proofs.gaps.words.set_in_word.Goals as goal

pub returns : goal.returns
returns c = record {
  set = λ bit. HasBit-set_or c.args.words.now c.args.word c.args.mask bit c.requires.within;
}
