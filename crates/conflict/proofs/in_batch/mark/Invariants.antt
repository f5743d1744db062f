use Rattle.std.proofs.Common.{◌≡◌, ◌++◌, ℕ, List, length, take}
use Rattle.keys.specs.declared.range.Range.{Range}
use Rattle.conflict.specs.Written.{AreWrittenGaps, AreRunsOf}
use Rattle.conflict.proofs.in_batch.mark.Given as goal

abbrev pub invariant-loop-from : goal.invariant-loop-from
invariant-loop-from l = record {
  count : length l.gaps ≡ length l.fn.gaps;
  marked : (keys : List (List ℕ)) (written ranges : List Range) → AreRunsOf keys l.runs ranges
      → AreWrittenGaps keys l.fn.gaps written → AreWrittenGaps keys l.gaps (written ++ take l.from-index ranges);
}
