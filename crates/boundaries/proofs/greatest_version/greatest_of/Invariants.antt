use Rattle.std.proofs.Common.{take}
use Rattle.boundaries.specs.Item.{IsMost}
use Rattle.boundaries.proofs.Words.{version_of}
use Rattle.boundaries.proofs.greatest_version.greatest_of.Given as goal

abbrev pub invariant-loop-entry : goal.invariant-loop-entry
invariant-loop-entry l = IsMost version_of l.least (take l.entry-index l.entries) l.most
