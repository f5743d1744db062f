use Rattle.keys.proofs.callers.Booleans.{not_both_ways}
use Rattle.stepmap.proofs.step_map.StepMap.exceeds.Goals as goal

pub is_above-requires : goal.is_above-requires
is_above-requires c =
    record {
      boundaries = c.self.invariant.steps.boundaries;
      filled = λ e. not_both_ways c.is_empty.result (c.is_empty.ensures.empty.1 (rw c.as_ref.ensures.range at e)) c.if-not-is_empty.true;
      hash = rw c.as_ref.ensures.range (rw c.as_ref-2.ensures.range at c.single_hash.ensures.hash);
    }
