use Rattle.std.proofs.Common.{◌≡◌, ◌≤◌, ◌-◌, List, length, take}
use Rattle.std.specs.Prelude.{MatchOption, Some, slice_get}
use Rattle.keys.specs.declared.range.Range.{Range}
use Rattle.stepmap.specs.Laws.{IsWriting}
use Rattle.keyspace.specs.storage.BatchRanges.{ranges_in}
use Rattle.conflict.specs.declared.union.UnitedSpan.{UnitedSpan}
use Rattle.conflict.specs.Union.{Spans, AreSpanned}
use Rattle.conflict.specs.Pace.{after_writes}
use Rattle.conflict.proofs.writes.write_spans.Given as goal

-- The ranges before the index are written, and the one at it is looked up.
abbrev pub invariant-loop-next : goal.invariant-loop-next
invariant-loop-next l = record {
  within : l.index ≤ length l.spans;
  next : MatchOption l.next (length l.spans ≤ l.index) (λ range. (span : UnitedSpan)
      × (slice_get l.spans l.index ≡ Some span) × Spans (ranges_in l.txns) span range);
  written : (united : List Range) → AreSpanned (ranges_in l.txns) l.spans united
      → IsWriting united l.version l.index l.fn.steps l.steps;
  exact : (united : List Range) → AreSpanned (ranges_in l.txns) l.spans united
      → l.steps ≡ after_writes (take l.index united) l.version l.fn.steps;
}

abbrev pub decreases-loop-next : goal.decreases-loop-next
decreases-loop-next l = length l.spans - l.index
