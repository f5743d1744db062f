use Rattle.std.proofs.Common.{◌≡◌, ◌++◌, map, take}
use Rattle.archcaraway_c.specs.Moving.{span_moved}
use Rattle.archcaraway_c.proofs.appended_tables.push_spans.Given as goal

abbrev pub invariant-loop-span : goal.invariant-loop-span
invariant-loop-span l =
    l.spans.items ≡ l.initial.spans.items ++ map (span_moved l.before) (take l.span-index l.others)
