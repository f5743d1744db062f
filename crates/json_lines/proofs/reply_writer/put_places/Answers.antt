use Rattle.json_lines.specs.Written.{place_json}
use Rattle.json_lines.proofs.Tokens.{list_put}
use Rattle.json_lines.proofs.reply_writer.put_places.Goals as goal

pub returns-clause-tokens : goal.returns-clause-tokens
returns-clause-tokens c =
    list_put place_json c.args.places.now c.args.writer.now.tokens c.begin_array.new.self.tokens c.each_place.new.writer.tokens
    c.end_array.new.self.tokens c.in_ok-begin_array.ensures.ok c.in_ok-each_place.ensures.tokens c.in_ok-end_array.ensures.ok
