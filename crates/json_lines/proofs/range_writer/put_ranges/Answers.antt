use Rattle.std.proofs.Common.{map}
use Rattle.wire.specs.Fields.{range_fields}
use Rattle.json_lines.specs.Written.{range_json}
use Rattle.json_lines.proofs.Tokens.{list_put}
use Rattle.json_lines.proofs.range_writer.put_ranges.Goals as goal

pub returns-clause-tokens : goal.returns-clause-tokens
returns-clause-tokens c =
    list_put range_json (map range_fields c.args.ranges.now) c.args.writer.now.tokens c.begin_array.new.self.tokens c.each_range.new.writer.tokens
    c.end_array.new.self.tokens c.in_ok-begin_array.ensures.ok c.in_ok-each_range.ensures.tokens c.in_ok-end_array.ensures.ok
