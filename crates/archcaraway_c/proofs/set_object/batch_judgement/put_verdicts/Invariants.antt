use Rattle.std.proofs.Common.{◌≡◌, take}
use Rattle.archcaraway_c.specs.Judging.{verdict_numbers}
use Rattle.archcaraway_c.proofs.set_object.batch_judgement.put_verdicts.Given as goal

abbrev pub invariant-loop-index : goal.invariant-loop-index
invariant-loop-index l = take l.index l.verdicts ≡ verdict_numbers (take l.index l.entries)
