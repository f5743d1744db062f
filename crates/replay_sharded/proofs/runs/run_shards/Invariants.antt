use Rattle.std.proofs.Common.{◌≡◌, ◌≤◌, ◌+◌, ◌++◌}
use Rattle.std.specs.Prelude.{map, vec_capacity, vec_items, vec_len}
use Rattle.std.specs.List.{All}
use Rattle.std.specs.Vec.Iter.{into_iter_items, into_iter_len}
use Rattle.limits.specs.declared.settings.TheConstants.{MAX_PROXIES}
use Rattle.replay_sharded.specs.Files.{AreFresh}
use Rattle.replay_sharded.specs.Runs.{given_to, keeping_options}
use Rattle.replay_sharded.proofs.Works.{given_by}
use Rattle.replay_sharded.proofs.runs.run_shards.Given as goal

abbrev pub invariant-loop-clips : goal.invariant-loop-clips
invariant-loop-clips g l = record {
  given :
      map given_to l.started.items ++ map (given_by (keeping_options l.fn.options)) (into_iter_items l.clips-iterator)
      ≡ map (given_by (keeping_options l.fn.options)) l.fn.each.items;
  proxies : All (λ clips. (1 ≤ vec_len clips) × (vec_len clips ≤ MAX_PROXIES)) (into_iter_items l.clips-iterator);
  fresh : All AreFresh (map vec_items (into_iter_items l.clips-iterator));
  as_many : into_iter_len l.gatekeepers ≡ into_iter_len l.clips-iterator;
  room : vec_len l.started + into_iter_len l.clips-iterator ≤ vec_capacity l.started;
  all : vec_len l.started + into_iter_len l.clips-iterator ≡ vec_len l.fn.each;
}
