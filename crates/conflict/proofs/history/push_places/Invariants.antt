use Rattle.conflict.proofs.Hits.{GatheredTo}
use Rattle.conflict.proofs.history.push_places.Given as goal

abbrev pub invariant-loop-place : goal.invariant-loop-place
invariant-loop-place l = GatheredTo l.hits l.from l.fn.places.items l.place l.places.items
