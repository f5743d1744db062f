use Rattle.std.proofs.Common.{◌≡◌, ◌≤◌, ◌+◌, ◌++◌}
use Rattle.std.specs.Prelude.{None, map, vec_len, vec_capacity}
use Rattle.std.specs.List.{All}
use Rattle.std.specs.Vec.Iter.{into_iter_items, into_iter_len}
use Rattle.resolver.specs.Share.{share_of}
use Rattle.replay_workers.specs.Threads.{Given, given_each, given_by, given_to}
use Rattle.replay_workers.proofs.threads.start_workers.Given as goal

abbrev pub invariant-loop-task : goal.invariant-loop-task
invariant-loop-task g l = record {
  given :
      map given_to l.workers.items ++ map given_by (into_iter_items l.task-iterator)
      ≡ given_each l.fn.style (share_of (vec_len l.fn.streams)) 0 l.fn.clients.items l.fn.streams.items;
  fresh : All (λ (given : Given g.row.B.Denot). g.B.Batches.refusal given.batches ≡ None) (map given_by (into_iter_items l.task-iterator));
  room : vec_len l.workers + into_iter_len l.task-iterator ≤ vec_capacity l.workers;
}
