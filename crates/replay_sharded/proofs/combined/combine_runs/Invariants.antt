use Rattle.std.proofs.Common.{◌≡◌, List, ℕ}
use Rattle.std.specs.Prelude.{Some, map, slice_get, vec_capacity, vec_items, vec_len}
use Rattle.std.specs.List.{AllZip}
use Rattle.replay_output.specs.Line.{AreLines}
use Rattle.replay_output.specs.declared.failures.ProxyFailure.{ProxyFailure}
use Rattle.replay_output.specs.declared.line.Line.{Line}
use Rattle.replay_sharded.specs.Combined.{AreTogether}
use Rattle.replay_sharded.proofs.Taking.{IsFrom}
use Rattle.replay_sharded.proofs.combined.combine_runs.Given as goal

abbrev pub invariant-loop-proxy : goal.invariant-loop-proxy
invariant-loop-proxy l = record {
  from : AllZip (IsFrom l.proxy) l.fn.runs.items l.runs.items;
  each :
      (proxy : ℕ) (lines : List Line) (failure : ProxyFailure)
      → slice_get (map vec_items l.lines.items) proxy ≡ Some lines → slice_get l.failures.items proxy ≡ Some failure
      → AreTogether l.fn.runs.items proxy lines failure;
  lines : AreLines l.fn.style (map vec_items l.lines.items);
  lines_count : vec_len l.lines ≡ l.proxy;
  failures_count : vec_len l.failures ≡ l.proxy;
  lines_room : vec_capacity l.lines ≡ vec_capacity l.fn.room.lines;
  failures_room : vec_capacity l.failures ≡ vec_capacity l.fn.room.failures;
  shards_room : vec_capacity l.failures_by_shard ≡ vec_capacity l.fn.room.failures_by_shard;
}
