use Rattle.std.proofs.Common.{◌≡◌, ◌+◌, ◌≤◌, ◌++◌, drop, map, vec_items}
use Rattle.std.specs.Prelude.{vec_capacity, vec_len}
use Rattle.std.specs.Vec.Iter.{into_iter_items, into_iter_len}
use Rattle.replay_tasks.specs.Checked.{replies_kept}
use Rattle.replay_tasks.proofs.check.report.kept_each.Given as goal

abbrev pub invariant-loop-lines : goal.invariant-loop-lines
invariant-loop-lines l = record {
  kept :
      map vec_items l.kept.items ++ map replies_kept (map vec_items (into_iter_items l.lines-iterator))
      ≡ map replies_kept (map vec_items l.fn.received.items);
  passed : vec_len l.kept + into_iter_len l.lines-iterator ≡ vec_len l.fn.received;
  room : vec_len l.kept + into_iter_len l.lines-iterator ≤ vec_capacity l.kept;
  left : into_iter_items l.lines-iterator ≡ drop (vec_len l.kept) l.fn.received.items;
}
