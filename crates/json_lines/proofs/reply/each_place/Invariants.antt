use Rattle.std.proofs.Common.{◌≡◌, drop}
use Rattle.json.specs.Value.{items_view}
use Rattle.json_lines.specs.Replies.{rising}
use Rattle.json_lines.proofs.Reading.{with_front}
use Rattle.json_lines.proofs.reply.each_place.Given as goal

abbrev pub invariant-loop-index : goal.invariant-loop-index
invariant-loop-index l =
    with_front l.places.items (rising l.least (items_view (drop l.index l.items))) ≡ rising 0 (items_view l.items)
