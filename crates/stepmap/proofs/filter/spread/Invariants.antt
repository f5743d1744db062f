use Rattle.std.proofs.Common.{◌≡◌}
use Rattle.stepmap.proofs.Spreading.{spread_from}
use Rattle.stepmap.proofs.filter.spread.Given as goal

abbrev pub invariant-loop-index : goal.invariant-loop-index
invariant-loop-index l = l.cells ≡ spread_from l.initial.cells l.count l.index
