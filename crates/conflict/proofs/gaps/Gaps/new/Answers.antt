use Rattle.conflict.proofs.GapsMarks.{marks_of-zero}
use Rattle.conflict.proofs.gaps.Gaps.new.Goals as goal

pub returns : goal.returns
returns c = record { empty = marks_of-zero c.new.result.items }
