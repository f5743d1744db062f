use Rattle.std.proofs.Common.{◌≡◌, ◌+◌, ◌-◌, ◌<◌, length, get_or, arith, rules, not, ap, sym, subst, ◌∙◌}
use Rattle.std.proofs.lemmas.List.Sorted.{IsPartitionPoint-from_clause}
use Rattle.keys.specs.Key.{IsAtMost}
use Rattle.keys.specs.Sorting.{begin_at}
use Rattle.keys.specs.declared.gap_runs.begin_sort.HeadedIndex.{HeadedIndex}
use Rattle.keys.specs.Numbering.{begins_below_end}
use Rattle.keys.proofs.EndHeads.{determined_same}
use Rattle.keys.proofs.Galloping.{steps_more, determined_point, determined_split, entire_split, below_split, after_split}
use Rattle.keys.proofs.Sorting.{no_headed}
use Rattle.keys.proofs.Reaching.{AreSplit}
use Rattle.keys.proofs.gap_runs.end_ranks.gallop.Given as given
use Rattle.keys.proofs.gap_runs.end_ranks.gallop.Goals.{After-partition_point, then-loop-step-test+else-is_begin_below, else-loop-step-test}
use Rattle.keys.proofs.gap_runs.end_ranks.gallop.Goals as goal

pub loop-step-preserved : goal.loop-step-preserved
loop-step-preserved g c = record {
  within = omega arith;
  some = omega arith;
  few = omega arith;
  below = steps_more (g.L.RangeList.ranges c.args.ranges.now) c.args.sorted.now c.args.end.now
      (c.loop-step.count + c.loop-step.step) c.requires.sorted (omega arith) (omega arith)
      (sym (determined_same (g.L.RangeList.ranges c.args.ranges.now) c.args.end.now c.args.head _
      (c.requires.determine (c.loop-step.count + c.loop-step.step - 1) no_headed (omega arith)))
      ∙ (sym c.is_begin_below.ensures.below ∙ c.if-is_begin_below.true));
}

split : (g : given.Over) (c : After-partition_point g)
    → AreSplit (g.L.RangeList.ranges c.args.ranges.now) c.args.sorted.now c.args.end.now
    (c.loop-step.count + c.partition_point.result)
split g c =
    let ranges = g.L.RangeList.ranges c.args.ranges.now in
    let all = c.args.sorted.now in
    let end = c.args.end.now in
    let count = c.loop-step.count in
    let last = c.min-last.result in
    let head = c.args.head in
    let determined = IsPartitionPoint-from_clause (begins_below_end ranges end head) _ _ c.partition_point.ensures.partitioned
    (determined_split ranges all end head count (last - count) c.requires.determine c.requires.sorted) (λ a r q k. search rules) in
    let point = determined_point ranges all end head count (last - count) c.requires.determine c.partition_point.result
    c.partition_point.ensures.bound determined in
    let following : last < length all → IsAtMost end (begin_at ranges (get_or all last no_headed).index) =
    elim c.loop-step-test.branch [
      | then-loop-step-test+else-is_begin_below w ↦ λ lt.
          let here : count + c.loop-step.step - 1 ≡ last = omega arith in
          subst (λ q. IsAtMost end (begin_at ranges (get_or all q no_headed).index)) here
          (ap not (sym (determined_same ranges end head _ (c.requires.determine (count + c.loop-step.step - 1) no_headed (omega arith)))
          ∙ (sym w.is_begin_below.ensures.below ∙ w.if-is_begin_below.false)))
      | else-loop-step-test w ↦ λ lt. absurd (omega arith)
    ] in
    entire_split ranges all end count last c.partition_point.result c.requires.sorted (omega arith) (omega arith)
    c.loop-step.invariant.below following c.partition_point.ensures.bound point

pub returns-clause-below : goal.returns-clause-below
returns-clause-below g c =
    below_split _ _ _ _ (split g (goal.at.returns-clause-below g c).After-partition_point)

pub returns-clause-following : goal.returns-clause-following
returns-clause-following g c =
    after_split _ _ _ _ (split g (goal.at.returns-clause-following g c).After-partition_point)
