use Rattle.std.proofs.Common.{map}
use Rattle.wire.specs.Fields.{txn_fields}
use Rattle.json_lines.specs.Written.{txn_json}
use Rattle.json_lines.proofs.Tokens.{list_put}
use Rattle.json_lines.proofs.batch_writer.put_txns.Goals as goal

pub returns-clause-tokens : goal.returns-clause-tokens
returns-clause-tokens c =
    list_put txn_json (map txn_fields c.args.txns.now) c.args.writer.now.tokens c.begin_array.new.self.tokens c.each_txn.new.writer.tokens
    c.end_array.new.self.tokens c.in_ok-begin_array.ensures.ok c.in_ok-each_txn.ensures.tokens c.in_ok-end_array.ensures.ok
