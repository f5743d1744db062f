use Rattle.std.proofs.Common.{take}
use Rattle.chain.proofs.Least.{IsLeastAt}
use Rattle.chain.proofs.gate.index_of_least.Given as goal

-- the least of those looked at
abbrev pub invariant-loop-index : goal.invariant-loop-index
invariant-loop-index l = IsLeastAt (take l.index l.held.items) l.least
