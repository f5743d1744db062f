use Rattle.std.proofs.Common.{◌≡◌, take}
use Rattle.batches_tasks.specs.Points.{point_lines}
use Rattle.batches_tasks.proofs.points.lines_of_points.Given as goal

abbrev pub invariant-loop-point : goal.invariant-loop-point
invariant-loop-point l = l.lines.items ≡ point_lines (take l.point-index l.keys)
