use Rattle.std.proofs.Common.{◌≡◌, ◌≤◌, ◌+◌, ◌++◌, List}
use Rattle.std.specs.Prelude.{map, vec_len, vec_capacity}
use Rattle.std.specs.List.{AllZip}
use Rattle.std.specs.Vec.Iter.{into_iter_items, into_iter_len}
use Rattle.replay_workers.specs.declared.threads.Worked.{Worked}
use Rattle.replay_workers.specs.Threads.{Given, finished_of, given_to, streams_of, HasWorkedOn, IsOutcomeOf}
use Rattle.replay_workers.proofs.threads.join_all.Given as goal

abbrev pub invariant-loop-worker : goal.invariant-loop-worker
invariant-loop-worker g l = record {
  joined : (given : List (Given g.row.B.Denot)) × (worked : List (Worked g.row.B.Denot))
      × (given ++ map given_to (into_iter_items l.worker-iterator) ≡ map given_to l.fn.workers.items)
      × AllZip (HasWorkedOn g.B.Batches.gives g.B.Batches.is_at_end g.B.Batches.is_at_fault g.B.Batches.stays) given worked
      × IsOutcomeOf (finished_of worked) l.outcome × (l.streams.items ≡ streams_of worked);
  room : vec_len l.outcome.clients + into_iter_len l.worker-iterator ≤ vec_capacity l.outcome.clients;
  streams_room : vec_len l.streams + into_iter_len l.worker-iterator ≤ vec_capacity l.streams;
}
