use Rattle.std.proofs.Common.{◌-◌, nat_cmp, IsSorted, Bor, List, ℕ}
use Rattle.std.specs.Cmp.Lexicographic.{slice_cmp}
use Rattle.shards.specs.Picking.{keys_of}
use Rattle.shards.proofs.Picked.{ArePicked}
use Rattle.shards.proofs.balanced_points.pick_points.Given as goal

abbrev pub invariant-loop-done : goal.invariant-loop-done
invariant-loop-done l = record {
  picked : ArePicked l.shard_count (l.shard_count - l.done) (keys_of l.begins) l.points.items (keys_of l.rest);
  sorted : IsSorted (λ (a b : Bor (List ℕ)). slice_cmp nat_cmp a.now b.now) l.rest;
}
