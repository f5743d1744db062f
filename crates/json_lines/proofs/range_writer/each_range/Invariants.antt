use Rattle.std.proofs.Common.{◌≡◌, ◌++◌, map, take}
use Rattle.keyspace.specs.storage.Fields.{range_fields}
use Rattle.json_lines.specs.Written.{all_tokens, range_json}
use Rattle.json_lines.proofs.range_writer.each_range.Given as goal

abbrev pub invariant-loop-index : goal.invariant-loop-index
invariant-loop-index l =
    (l.writer.tokens ≡ l.fn.writer.tokens ++ all_tokens range_json (map range_fields (take l.index l.ranges)))
    × (l.writer.before ≡ l.fn.writer.before)
