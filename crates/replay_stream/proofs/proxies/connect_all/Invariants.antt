use Rattle.std.proofs.Common.{◌≡◌, ◌≤◌, ◌+◌, ◌++◌}
use Rattle.std.specs.Prelude.{map, vec_len, vec_capacity}
use Rattle.std.specs.List.{All}
use Rattle.std.specs.Vec.Iter.{into_iter_items, into_iter_len}
use Rattle.replay_stream.specs.Proxies.{IsNewOutlet, given_proxies, given_with, threads_by}
use Rattle.replay_stream.proofs.proxies.connect_all.Given as goal

abbrev pub invariant-loop-client : goal.invariant-loop-client
invariant-loop-client g l = record {
  given :
      map (λ task. given_with task.outlet (threads_by task)) l.tasks.items
      ++ given_proxies l.fn.options.reports (vec_len l.tasks) (into_iter_items l.client-iterator) (into_iter_items l.readers) (into_iter_items l.records)
      ≡ given_proxies l.fn.options.reports 0 l.fn.clients.items l.fn.readers.items l.fn.records.items;
  new : All (λ task. IsNewOutlet task.outlet (threads_by task).answers) l.tasks.items;
  room : vec_len l.tasks + into_iter_len l.client-iterator ≤ vec_capacity l.tasks;
  readers : into_iter_len l.readers ≡ into_iter_len l.client-iterator;
  records : into_iter_len l.records ≡ into_iter_len l.client-iterator;
}
