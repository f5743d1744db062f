use Rattle.std.proofs.Common.{◌++◌, ◌∙◌, ◌≤◌, length, refl, subst, arith}
use Rattle.std.proofs.lemmas.List.{take_all}
use Rattle.conflict.specs.Written.{AreWrittenGaps}
use Rattle.conflict.proofs.RunsOfRanges.{determined_count}
use Rattle.conflict.proofs.Written.{next_written}
use Rattle.conflict.proofs.in_batch.mark.Goals as goal

pub loop-from-preserved : goal.loop-from-preserved
loop-from-preserved c = record {
  count = c.mark.ensures.count ∙ c.loop-from.invariant.count;
  marked = λ keys written ranges determine determined.
      next_written keys c.loop-from.gaps c.mark.new.self written ranges c.args.runs.now c.loop-from.from-index _ _
      c.loop-from-test.true refl determine c.mark.ensures.marked
      (c.loop-from.invariant.marked keys written ranges determine determined);
}

pub returns-clause-marked : goal.returns-clause-marked
returns-clause-marked c = λ keys written ranges determine determined.
    let i = c.loop-from.from-index in
    let end : length ranges ≤ i = omega (arith, c.loop-from-test.false, determined_count keys c.args.runs.now ranges determine) in
    subst (λ rs. AreWrittenGaps keys c.loop-from.gaps (written ++ rs)) (take_all i ranges end)
    (c.loop-from.invariant.marked keys written ranges determine determined)
