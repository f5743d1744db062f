use Rattle.std.proofs.Common.{◌≡◌, ◌++◌, map, take}
use Rattle.archcaraway_c.specs.BatchObject.{span_after}
use Rattle.archcaraway_c.proofs.batch_tables.push_ranges.Given as goal

abbrev pub invariant-loop-span : goal.invariant-loop-span
invariant-loop-span l =
    l.spans.items ≡ l.initial.spans.items ++ map (span_after l.before) (take l.span-index l.given)
