use Rattle.std.proofs.Common.{◌≤◌, length, filter}
use Rattle.boundaries.proofs.Words.{is_below}
use Rattle.boundaries.specs.Node.{entries_of}
use Rattle.boundaries.proofs.node.Node.lower_bound_back.Given as goal

abbrev pub invariant-loop-count : goal.invariant-loop-count
invariant-loop-count l =
    (l.count ≤ length (entries_of l.self))
    × (length (filter (λ e. is_below l.keys l.bound e.key) (entries_of l.self)) ≤ l.count)

abbrev pub decreases-loop-count : goal.decreases-loop-count
decreases-loop-count l = l.count
