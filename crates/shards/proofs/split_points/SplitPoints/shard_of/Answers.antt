use Rattle.std.proofs.Common.{◌∙◌, ℕ, List, [], not, rules, subst, sym}
use Rattle.std.proofs.lemmas.List.Sorted.{IsPartitionPoint-from_clause}
use Rattle.keys.specs.Key.{is_before}
use Rattle.keys.proofs.callers.KeyOrder.{is_le-cmp}
use Rattle.serial.specs.Shards.{Shard, has_key, shards, IsRising}
use Rattle.serial.proofs.callers.Reading.{some_at}
use Rattle.std.specs.Prelude.{IsTrue, slice_get}
use Rattle.shards.specs.Reach.{shard_at, AreFirst}
use Rattle.shards.proofs.Counts.{up_to_parted, first_from_point}
use Rattle.shards.proofs.Reached.{shard_has}
use Rattle.shards.proofs.ShardList.{shard_get}
use Rattle.shards.proofs.split_points.SplitPoints.shard_of.Goals.{After-partition_point}
use Rattle.shards.proofs.split_points.SplitPoints.shard_of.Goals as goal

first : (c : After-partition_point) → AreFirst (λ point. not (is_before c.args.key.now point)) c.args.self.now c.partition_point.result
first c =
    let test = λ (point : List ℕ). not (is_before c.args.key.now point) in
    let points = c.deref.result.now in
    let rising = subst (IsRising []) (sym c.deref.ensures.value) c.self.invariant.rising in
    let parted = IsPartitionPoint-from_clause test _ _ c.partition_point.ensures.partitioned
    (up_to_parted points rising c.args.key.now) (λ a r q k. search (rules, is_le-cmp)) in
    subst (λ (points : List (List ℕ)). AreFirst test points c.partition_point.result) (c.deref.ensures.value ∙ c.self.view_is)
    (first_from_point test points c.partition_point.result c.partition_point.ensures.bound parted)

pub returns-clause-shard : goal.returns-clause-shard
returns-clause-shard c =
    let points = c.args.self.now in
    let n = c.partition_point.result in
    some_at (λ (shard : Shard). IsTrue (has_key shard c.args.key.now)) (slice_get (shards points) n) (shard_at points n)
    (shard_get points n (first c).within) (shard_has points c.args.key.now n (first c))

pub returns-clause-first : goal.returns-clause-first
returns-clause-first c = first c
