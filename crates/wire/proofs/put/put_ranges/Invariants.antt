use Rattle.std.proofs.Common.{◌≡◌, ◌++◌, map, take}
use Rattle.std.specs.List.{flat_map}
use Rattle.wire.specs.Fields.{range_fields}
use Rattle.wire.specs.Spelling.{range_text}
use Rattle.wire.proofs.put.put_ranges.Given as goal

abbrev pub invariant-loop-index : goal.invariant-loop-index
invariant-loop-index l = l.out.items ≡ l.fn.out.items ++ flat_map (range_text l.version)
    (map range_fields (take l.index l.ranges))
