use Rattle.std.proofs.Common.{◌≡◌, ◌++◌, map, take}
use Rattle.std.specs.List.{All}
use Rattle.keyspace.specs.Places.{ArePlaces}
use Rattle.wire.specs.Fields.{entry_fields}
use Rattle.json_lines.specs.Written.{all_tokens, entry_json}
use Rattle.json_lines.proofs.reply_writer.each_entry.Given as goal

abbrev pub invariant-loop-entry : goal.invariant-loop-entry
invariant-loop-entry l =
    (l.writer.tokens ≡ l.fn.writer.tokens ++ all_tokens entry_json (map entry_fields (take l.entry-index l.entries)))
    × (l.writer.before ≡ l.fn.writer.before)
    × All (λ entry. ArePlaces entry.places) (take l.entry-index l.entries)
