use Rattle.std.proofs.Common.{◌≡◌, ◌≤◌, ◌+◌, ◌++◌, List}
use Rattle.std.specs.Prelude.{None, map, vec_len, vec_capacity}
use Rattle.std.specs.List.{AllZip}
use Rattle.std.specs.Vec.Iter.{into_iter_items, into_iter_len}
use Rattle.replay_output.specs.declared.options.Options.{Options}
use Rattle.replay_shards.specs.declared.clips.Clips.{Clips}
use Rattle.replay_sharded.specs.Runs.{IsWorkOf, given_to}
use Rattle.replay_sharded.proofs.runs.join_all.Given as goal

abbrev pub invariant-loop-shard : goal.invariant-loop-shard
invariant-loop-shard g l = record {
  joined : (given : List (Options × List (Clips g.row.S.Denot)))
      × (given ++ map given_to (into_iter_items l.shard-iterator) ≡ map given_to l.fn.started.items)
      × (l.failed ≡ None → AllZip (λ given run. IsWorkOf g.S.Source.remaining given.0 given.1 run) given l.runs.items);
  room : vec_len l.runs + into_iter_len l.shard-iterator ≤ vec_capacity l.runs;
}
