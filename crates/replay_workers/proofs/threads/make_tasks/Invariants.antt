use Rattle.std.proofs.Common.{◌≡◌, ◌≤◌, ◌+◌, ◌++◌}
use Rattle.std.specs.Prelude.{map, vec_len, vec_capacity}
use Rattle.std.specs.Vec.Iter.{into_iter_items, into_iter_len}
use Rattle.replay_workers.specs.Threads.{given_by, given_each}
use Rattle.replay_workers.proofs.threads.make_tasks.Given as goal

abbrev pub invariant-loop-client : goal.invariant-loop-client
invariant-loop-client g l = record {
  given :
      map given_by l.tasks.items
      ++ given_each l.style l.share (vec_len l.tasks) (into_iter_items l.client-iterator) (into_iter_items l.streams)
      ≡ given_each l.style l.share 0 l.fn.clients.items l.fn.streams.items;
  room : vec_len l.tasks + into_iter_len l.client-iterator ≤ vec_capacity l.tasks;
  streams : into_iter_len l.streams ≡ into_iter_len l.client-iterator;
}
