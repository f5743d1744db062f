use Rattle.std.proofs.Common.{All, take}
use Rattle.archcaraway_c.specs.BatchObject.{IsRangeOf}
use Rattle.archcaraway_c.proofs.given_range.check_ranges.Given as goal

abbrev pub invariant-loop-span : goal.invariant-loop-span
invariant-loop-span l = All (IsRangeOf l.keys) (take l.span-index l.given)
