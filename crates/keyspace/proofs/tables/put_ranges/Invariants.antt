use Rattle.std.proofs.Common.{map, take}
use Rattle.keyspace.specs.storage.Fields.{range_fields}
use Rattle.keyspace.specs.storage.Putting.{ArePut}
use Rattle.keyspace.proofs.tables.put_ranges.Given as goal

abbrev pub invariant-loop-range : goal.invariant-loop-range
invariant-loop-range l =
    ArePut l.initial.buffer.items l.initial.spans.items (map range_fields (take l.range-index l.ranges)) l.buffer.items l.spans.items
