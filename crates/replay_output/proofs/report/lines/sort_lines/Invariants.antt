use Rattle.std.proofs.Common.{◌≡◌, map}
use Rattle.std.specs.Prelude.{vec_items}
use Rattle.replay_output.specs.Line.{version_of_line}
use Rattle.keyspace.specs.storage.InOrder.{in_order_by}
use Rattle.replay_output.proofs.Numbered.{changed_to}
use Rattle.replay_output.proofs.report.lines.sort_lines.Given as goal

abbrev pub invariant-loop-proxy : goal.invariant-loop-proxy
invariant-loop-proxy l =
    map vec_items l.received ≡ changed_to (in_order_by version_of_line) l.proxy (map vec_items l.initial.received)
