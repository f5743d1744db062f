use Rattle.std.proofs.Common.{◌≡◌, map, take}
use Rattle.std.specs.Prelude.{vec_capacity}
use Rattle.replay_sharded.specs.Combined.{stop_of}
use Rattle.replay_sharded.proofs.combined.put_stops.Given as goal

abbrev pub invariant-loop-run : goal.invariant-loop-run
invariant-loop-run l = record {
  stops : l.stops.items ≡ map stop_of (take l.run-index l.runs);
  capacity : vec_capacity l.stops ≡ vec_capacity l.fn.stops;
}
