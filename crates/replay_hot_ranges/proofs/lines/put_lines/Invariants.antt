use Rattle.std.proofs.Common.{◌≡◌, ◌++◌, take}
use Rattle.std.specs.List.{flat_map}
use Rattle.replay_hot_ranges.specs.Text.{hot_line}
use Rattle.replay_hot_ranges.proofs.lines.put_lines.Given as goal

-- the lines of the ranges so far
abbrev pub invariant-loop-range : goal.invariant-loop-range
invariant-loop-range l = l.out.items ≡ l.fn.out.items ++ flat_map hot_line (take l.range-index l.ranges)
