use Rattle.std.proofs.Common.{◌≡◌, ◌≤◌, ◌*◌, length, map, take}
use Rattle.std.specs.List.{flat_map}
use Rattle.wire.specs.Fields.{txn_fields}
use Rattle.wire.specs.Spelling.{txn_text}
use Rattle.wire.proofs.length.txns_length.Given as goal

abbrev pub invariant-loop-index : goal.invariant-loop-index
invariant-loop-index l = (l.total ≡ length (flat_map (txn_text l.version)
    (map txn_fields (take l.index l.txns)))) × (l.total ≤ 40974349 * l.index)
