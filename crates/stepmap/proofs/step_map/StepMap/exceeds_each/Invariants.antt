use Rattle.std.proofs.Common.{◌≤◌, ◌-◌, length, take}
use Rattle.std.specs.Prelude.{◌↔◌, IsTrue}
use Rattle.std.specs.List.{AllZip}
use Rattle.stepmap.specs.Covers.{IsAbove}
use Rattle.stepmap.proofs.step_map.StepMap.exceeds_each.Given as goal

abbrev pub invariant-loop-answers : goal.invariant-loop-answers
invariant-loop-answers g l = record {
  within : length l.answers.items ≤ length (g.L.QueryList.queries l.queries);
  answered : AllZip (λ q above. IsTrue above ↔ IsAbove l.self q.0 q.1)
      (take (length l.answers.items) (g.L.QueryList.queries l.queries)) l.answers.items;
}

abbrev pub decreases-loop-answers : goal.decreases-loop-answers
decreases-loop-answers g l = length (g.L.QueryList.queries l.queries) - length l.answers.items
