use Rattle.std.proofs.Common.{◌≡◌, map, take, Some}
use Rattle.conflict.specs.Lookup.{query_named, all_first}
use Rattle.conflict.proofs.lookup.list_first.Given as goal

abbrev pub invariant-loop-index : goal.invariant-loop-index
invariant-loop-index l =
    map (query_named l.batch.txns) l.asked.items ≡ map Some (all_first l.oldest (take l.index l.batch.txns))
