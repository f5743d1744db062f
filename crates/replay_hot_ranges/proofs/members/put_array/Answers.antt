use Rattle.json_lines.proofs.Tokens.{list_put}
use Rattle.replay_hot_ranges.specs.Text.{hot_json}
use Rattle.replay_hot_ranges.proofs.members.put_array.Goals as goal

pub returns-clause-tokens : goal.returns-clause-tokens
returns-clause-tokens c =
    list_put hot_json c.args.ranges.now c.args.writer.now.tokens c.begin_array.new.self.tokens c.put_each.new.writer.tokens
    c.end_array.new.self.tokens c.in_ok-begin_array.ensures.ok c.in_ok-put_each.ensures.tokens c.in_ok-end_array.ensures.ok
