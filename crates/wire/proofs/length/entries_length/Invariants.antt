use Rattle.std.proofs.Common.{◌≡◌, ◌≤◌, ◌*◌, length, map, take}
use Rattle.std.specs.List.{flat_map}
use Rattle.wire.specs.Fields.{entry_fields}
use Rattle.wire.specs.Spelling.{entry_text}
use Rattle.wire.proofs.length.entries_length.Given as goal

abbrev pub invariant-loop-entry : goal.invariant-loop-entry
invariant-loop-entry l = (l.total ≡ length (flat_map entry_text
    (map entry_fields (take l.entry-index l.entries)))) × (l.total ≤ 2051 * l.entry-index)
