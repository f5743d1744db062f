use Rattle.std.proofs.Common.{◌≡◌, ◌+◌, ◌≤◌, ◌++◌, Bool, List, length}
use Rattle.stepmap.specs.Filtering.{AreMarked}
use Rattle.stepmap.proofs.step_map.StepMap.mark_next.Given as goal

abbrev pub invariant-loop-bound : goal.invariant-loop-bound
invariant-loop-bound g l = record {
  count : length l.marks.items ≡ length l.fn.marks.items + l.bound-index;
  places : length l.places.items ≤ length l.fn.places.items + l.bound-index;
  marked : (old answered : List Bool) → l.fn.marks.items ≡ old ++ answered
      → AreMarked l.self (g.L.QueryList.queries l.queries) (length old) answered l.fn.places.items
      → (more : List Bool) × (l.marks.items ≡ old ++ more)
      × AreMarked l.self (g.L.QueryList.queries l.queries) (length old) more l.places.items;
}
