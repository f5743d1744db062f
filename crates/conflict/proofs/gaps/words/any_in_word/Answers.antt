use Rattle.std.proofs.Common.{rules}
use Rattle.conflict.proofs.GapsFound.{any_of_mask}
use Rattle.conflict.proofs.gaps.words.any_in_word.Goals as goal

pub returns : goal.returns
returns c = record { found = any_of_mask c.args.words.now c.args.word c.args.mask (search rules) }
