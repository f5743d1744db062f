use Rattle.std.proofs.lemmas.List.Filters.{FiltersInPlace}
use Rattle.keys.specs.Singles.{is_marked}
use Rattle.keyspace.proofs.write_order.list_writes.Given as goal

abbrev pub invariant-loop-place : goal.invariant-loop-place
invariant-loop-place l = FiltersInPlace (is_marked l.written) l.initial.order.items l.order.items l.len l.place
