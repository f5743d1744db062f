use Rattle.std.proofs.Common.{map}
use Rattle.wire.specs.Fields.{entry_fields}
use Rattle.json_lines.specs.Written.{entry_json}
use Rattle.json_lines.proofs.Tokens.{list_put}
use Rattle.json_lines.proofs.reply_writer.put_entries.Goals as goal

pub returns-clause-tokens : goal.returns-clause-tokens
returns-clause-tokens c =
    list_put entry_json (map entry_fields c.args.entries.now) c.args.writer.now.tokens c.begin_array.new.self.tokens c.each_entry.new.writer.tokens
    c.end_array.new.self.tokens c.in_ok-begin_array.ensures.ok c.in_ok-each_entry.ensures.tokens c.in_ok-end_array.ensures.ok
