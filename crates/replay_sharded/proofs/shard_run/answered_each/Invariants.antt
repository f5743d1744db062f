use Rattle.std.proofs.Common.{◌≡◌, ◌≤◌, ◌+◌, ◌++◌}
use Rattle.std.specs.Prelude.{map, vec_capacity, vec_items, vec_len}
use Rattle.std.specs.Vec.Iter.{into_iter_items, into_iter_len}
use Rattle.replay_sharded.specs.Files.{notes_left}
use Rattle.replay_sharded.specs.Runs.{lines_by, notes_by}
use Rattle.replay_sharded.proofs.shard_run.answered_each.Given as goal

abbrev pub invariant-loop-lines : goal.invariant-loop-lines
invariant-loop-lines g l = record {
  lines : map lines_by l.answered.items ++ map vec_items (into_iter_items l.lines-iterator) ≡ map vec_items l.fn.lines.items;
  notes : map notes_by l.answered.items ++ map notes_left (into_iter_items l.ended) ≡ map notes_left l.fn.ended.items;
  room : vec_len l.answered + into_iter_len l.lines-iterator ≤ vec_capacity l.answered;
  as_many : into_iter_len l.ended ≡ into_iter_len l.lines-iterator;
}
