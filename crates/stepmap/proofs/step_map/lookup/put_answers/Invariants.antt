use Rattle.std.proofs.Common.{◌≡◌, ◌+◌, ◌≤◌, ◌++◌, length, take, drop}
use Rattle.std.specs.Prelude.{count_by}
use Rattle.stepmap.specs.Filtering.{with_answers}
use Rattle.stepmap.proofs.step_map.lookup.put_answers.Given as goal

abbrev pub invariant-loop-index : goal.invariant-loop-index
invariant-loop-index l = record {
  long : length l.marks ≡ length l.initial.marks;
  enough : l.next + count_by (λ mark. mark) (drop l.index l.marks) ≤ length l.answered;
  answers : take l.index l.marks ++ with_answers (drop l.index l.marks) (drop l.next l.answered)
      ≡ take l.from l.initial.marks ++ with_answers (drop l.from l.initial.marks) l.answered;
}
