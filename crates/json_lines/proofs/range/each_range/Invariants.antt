use Rattle.std.proofs.Common.{◌≡◌, drop, map, length}
use Rattle.json.specs.Value.{items_view}
use Rattle.wire.specs.Fields.{range_fields}
use Rattle.json_lines.specs.Ranges.{range_in}
use Rattle.json_lines.specs.Values.{each}
use Rattle.json_lines.proofs.Reading.{with_front}
use Rattle.json_lines.proofs.range.each_range.Given as goal

abbrev pub invariant-loop-index : goal.invariant-loop-index
invariant-loop-index l =
    (with_front (map range_fields l.ranges.items) (each range_in (items_view (drop l.index l.items))) ≡ each range_in (items_view l.items))
    × (length l.ranges.items ≡ l.index)
