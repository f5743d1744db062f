use Rattle.std.proofs.Common.{drop, map}
use Rattle.boundaries.proofs.Words.{item_of}
use Rattle.boundaries.proofs.StillCounted.{IsStillCounted}
use Rattle.boundaries.proofs.unexpired.count_entries.Given as goal

abbrev pub invariant-loop-entry : goal.invariant-loop-entry
invariant-loop-entry l =
    IsStillCounted l.edge l.fn.before (map item_of l.entries) l.counted (map item_of (drop l.entry-index l.entries))
