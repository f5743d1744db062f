use Rattle.std.proofs.Common.{◌≡◌, take}
use Rattle.std.specs.Prelude.{vec_capacity, vec_len}
use Rattle.replay_sharded.specs.Combined.{AreFailuresOf}
use Rattle.replay_sharded.proofs.combined.put_failures.Given as goal

abbrev pub invariant-loop-run : goal.invariant-loop-run
invariant-loop-run l = record {
  failures : AreFailuresOf l.proxy (take l.run-index l.runs) l.failures.items;
  count : vec_len l.failures ≡ l.run-index;
  capacity : vec_capacity l.failures ≡ vec_capacity l.fn.failures;
}
