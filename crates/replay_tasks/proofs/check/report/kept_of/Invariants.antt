use Rattle.std.proofs.Common.{◌≡◌, ◌++◌}
use Rattle.std.specs.Vec.Iter.{into_iter_items}
use Rattle.replay_tasks.specs.Checked.{replies_kept}
use Rattle.replay_tasks.proofs.check.report.kept_of.Given as goal

abbrev pub invariant-loop-line : goal.invariant-loop-line
invariant-loop-line l =
    l.kept.items ++ replies_kept (into_iter_items l.line-iterator) ≡ replies_kept l.fn.lines.items
