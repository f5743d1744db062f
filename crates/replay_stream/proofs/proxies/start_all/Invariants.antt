use Rattle.std.proofs.Common.{◌≡◌, ◌≤◌, ◌+◌, ◌++◌}
use Rattle.std.specs.Prelude.{map, vec_len, vec_capacity}
use Rattle.std.specs.Vec.Iter.{into_iter_items, into_iter_len}
use Rattle.replay_stream.specs.Proxies.{outlets_of, threads_by, threads_of}
use Rattle.replay_stream.proofs.proxies.start_all.Given as goal

abbrev pub invariant-loop-task : goal.invariant-loop-task
invariant-loop-task g l = record {
  outlets :
      outlets_of l.proxies.items ++ map (λ task. task.outlet) (into_iter_items l.task-iterator)
      ≡ map (λ task. task.outlet) l.fn.tasks.items;
  threads :
      map threads_of l.proxies.items ++ map threads_by (into_iter_items l.task-iterator) ≡ map threads_by l.fn.tasks.items;
  room : vec_len l.proxies + into_iter_len l.task-iterator ≤ vec_capacity l.proxies;
}
