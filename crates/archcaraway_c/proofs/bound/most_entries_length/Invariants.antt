use Rattle.std.proofs.Common.{◌≡◌, ◌≤◌, ◌*◌, take}
use Rattle.std.specs.List.{sum_by}
use Rattle.archcaraway_c.specs.Bound.{most_entry_length}
use Rattle.archcaraway_c.proofs.bound.most_entries_length.Given as goal

abbrev pub invariant-loop-index : goal.invariant-loop-index
invariant-loop-index l = (l.total ≡ sum_by most_entry_length (take l.index l.txns)) × (l.total ≤ 2051 * l.index)
