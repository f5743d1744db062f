use Rattle.std.proofs.Common.{◌≡◌, ◌++◌, List, map, drop, length, Some, ℤ}
use Rattle.keys.specs.declared.range.Range.{Range}
use Rattle.conflict.specs.Lookup.{query_named, all_first, all_then, all_parts}
use Rattle.conflict.proofs.lookup.list_others.Given as goal

abbrev pub invariant-loop-index : goal.invariant-loop-index
invariant-loop-index l =
    (length l.rest ≡ length (all_first l.oldest (drop l.index l.batch.txns)))
    × ((done : List (Range × ℤ)) × (map (query_named l.batch.txns) l.asked.items ≡ map Some done)
    × (done ++ all_then l.oldest (drop l.index l.batch.txns) l.rest ≡ all_then l.oldest l.batch.txns l.answers))
    × (l.parts.items ++ all_parts l.oldest (drop l.index l.batch.txns) l.rest ≡ all_parts l.oldest l.batch.txns l.answers)
