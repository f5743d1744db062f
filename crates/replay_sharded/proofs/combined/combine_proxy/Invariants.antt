use Rattle.std.proofs.Common.{◌≡◌, ◌≤◌, drop, length, take}
use Rattle.std.specs.Prelude.{vec_capacity, vec_len}
use Rattle.std.specs.List.{All, AllZip}
use Rattle.replay_shards.specs.Answered.{AreKept}
use Rattle.replay_sharded.specs.Combined.{AreOfProxy, TakesOf}
use Rattle.replay_sharded.proofs.combined.combine_proxy.Given as goal

abbrev pub invariant-loop-shard : goal.invariant-loop-shard
invariant-loop-shard l = record {
  each : AreOfProxy l.proxy (take l.shard l.fn.runs) l.each.items;
  kept : All AreKept l.each.items;
  taken : AllZip (TakesOf l.proxy) (take l.shard l.fn.runs) (take l.shard l.runs);
  rest : drop l.shard l.runs ≡ drop l.shard l.fn.runs;
  runs : length l.runs ≡ length l.fn.runs;
  count : vec_len l.each ≡ l.shard;
  room : length l.fn.runs ≤ vec_capacity l.each;
}
