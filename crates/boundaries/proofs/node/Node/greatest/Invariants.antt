use Rattle.std.proofs.Common.{take, ◌+◌}
use Rattle.boundaries.proofs.Words.{IsGreatest, version_of, entries_of}
use Rattle.boundaries.proofs.node.Node.greatest.Given as goal

abbrev pub invariant-loop-entry : goal.invariant-loop-entry
invariant-loop-entry l = IsGreatest version_of l.greatest (take (l.entry-index + 1) (entries_of l.self))
