use Rattle.std.proofs.Common.{◌≡◌, drop, map, length}
use Rattle.json.specs.Value.{items_view}
use Rattle.wire.specs.Fields.{txn_fields}
use Rattle.json_lines.specs.Batches.{txn_in}
use Rattle.json_lines.specs.Values.{each}
use Rattle.json_lines.proofs.Reading.{with_front}
use Rattle.json_lines.proofs.txn.each_txn.Given as goal

abbrev pub invariant-loop-index : goal.invariant-loop-index
invariant-loop-index l =
    (with_front (map txn_fields l.txns.items) (each txn_in (items_view (drop l.index l.items))) ≡ each txn_in (items_view l.items))
    × (length l.txns.items ≡ l.index)
