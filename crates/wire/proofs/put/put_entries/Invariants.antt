use Rattle.std.proofs.Common.{◌≡◌, ◌++◌, map, take}
use Rattle.std.specs.List.{All, flat_map}
use Rattle.keyspace.specs.Places.{ArePlaces}
use Rattle.wire.specs.Fields.{entry_fields}
use Rattle.wire.specs.Spelling.{entry_text}
use Rattle.wire.proofs.put.put_entries.Given as goal

abbrev pub invariant-loop-entry : goal.invariant-loop-entry
invariant-loop-entry l =
    (l.out.items ≡ l.fn.out.items ++ flat_map entry_text (map entry_fields (take l.entry-index l.entries)))
    × All (λ entry. ArePlaces entry.places) (take l.entry-index l.entries)
