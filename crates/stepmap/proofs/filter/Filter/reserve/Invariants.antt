use Rattle.std.proofs.Common.{◌≡◌, ℕ, ◌*◌, ◌-◌, ◌≤◌, List, length}
use Rattle.stepmap.specs.Filter.{bound}
use Rattle.stepmap.specs.declared.filter.TheConstants.{MAX_CELLS}
use Rattle.stepmap.proofs.filter.Filter.reserve.Given as goal

abbrev pub invariant-loop-self : goal.invariant-loop-self
invariant-loop-self l = record {
  same : (key : List ℕ) → bound l.self key ≡ bound l.initial.self key;
  range : l.self.newest_range ≡ l.initial.self.newest_range;
  newest : l.self.newest_key ≡ l.initial.self.newest_key;
  no_fewer : length l.initial.self.cells ≤ length l.self.cells;
}

abbrev pub decreases-loop-self : goal.decreases-loop-self
decreases-loop-self l = 2 * MAX_CELLS - length l.self.cells
