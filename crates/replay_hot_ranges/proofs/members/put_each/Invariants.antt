use Rattle.std.proofs.Common.{◌≡◌, ◌++◌, take}
use Rattle.json_lines.specs.Written.{all_tokens}
use Rattle.replay_hot_ranges.specs.Text.{hot_json}
use Rattle.replay_hot_ranges.proofs.members.put_each.Given as goal

-- the tokens of the ranges so far
abbrev pub invariant-loop-range : goal.invariant-loop-range
invariant-loop-range l =
    (l.writer.tokens ≡ l.fn.writer.tokens ++ all_tokens hot_json (take l.range-index l.ranges))
    × (l.writer.before ≡ l.fn.writer.before)
