use Rattle.std.proofs.Common.{◌≡◌, ◌+◌, drop, map, vec_items}
use Rattle.replay_tasks.specs.Checked.{count_lines}
use Rattle.replay_tasks.proofs.check.report.count_lines.Given as goal

abbrev pub invariant-loop-lines : goal.invariant-loop-lines
invariant-loop-lines l =
    l.count + count_lines (map vec_items (drop l.lines-index l.received)) ≡ count_lines (map vec_items l.received)
