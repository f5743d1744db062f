use Rattle.std.proofs.Common.{◌≡◌, drop, map, length}
use Rattle.json.specs.Value.{items_view}
use Rattle.wire.specs.Fields.{entry_fields}
use Rattle.json_lines.specs.Replies.{entry_in}
use Rattle.json_lines.specs.Values.{each}
use Rattle.json_lines.proofs.Reading.{with_front}
use Rattle.json_lines.proofs.reply.each_entry.Given as goal

abbrev pub invariant-loop-index : goal.invariant-loop-index
invariant-loop-index l =
    (with_front (map entry_fields l.entries.items) (each entry_in (items_view (drop l.index l.items))) ≡ each entry_in (items_view l.items))
    × (length l.entries.items ≡ l.index)
