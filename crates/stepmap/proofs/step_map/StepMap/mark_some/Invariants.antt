use Rattle.std.proofs.Common.{◌≡◌, ◌++◌, ◌-◌, Bool, List, length}
use Rattle.stepmap.specs.Filtering.{AreMarked}
use Rattle.stepmap.proofs.step_map.StepMap.mark_some.Given as goal

abbrev pub invariant-loop-places : goal.invariant-loop-places
invariant-loop-places g l =
    (answered : List Bool) × (l.marks.items ≡ l.fn.marks.items ++ answered)
    × AreMarked l.self (g.L.QueryList.queries l.queries) (length l.fn.marks.items) answered l.places.items

abbrev pub decreases-loop-places : goal.decreases-loop-places
decreases-loop-places g l = l.count - length l.marks.items
