use Rattle.std.proofs.Common.{◌≤◌, ◌+◌, ℕ, List, [], length, take, sym, subst, arith}
use Rattle.std.specs.List.{AllZip}
use Rattle.keys.proofs.callers.Lists.{AllZip-more}
use Rattle.keyspace.specs.storage.BatchRanges.{ranges_in}
use Rattle.serial.specs.Shards.{Shard, shards}
use Rattle.shards.specs.Numbered.{AreNumbered}
use Rattle.shards.specs.Reach.{shard_at, IsReach}
use Rattle.shards.specs.declared.reach.Reach.{Reach}
use Rattle.shards.proofs.BuiltTables.{reported_of_shard}
use Rattle.shards.proofs.ShardList.{length-shards, shard_get}
use Rattle.shards.proofs.read_numbers.number_all.Goals as goal

pub number_by-requires : goal.number_by-requires
number_by-requires c =
    let points = c.args.points.now in
    let m = c.loop-shard.shard in
    let ranges = ranges_in c.args.batch.now.txns in
    let reaches = subst (λ (found : List Reach). AllZip (IsReach points) ranges found) (sym c.deref.ensures.value) c.in_ok-reaches.ensures.reaches in
    let inside : m ≤ length points =
    omega (arith, c.loop-shard-test.true, c.shard_count-shard-end.ensures.count, length-shards [] points) in
    record { reported = (shard_at points m, reported_of_shard points m inside ranges c.deref.result.now reaches) }

pub loop-shard-preserved : goal.loop-shard-preserved
loop-shard-preserved c =
    let points = c.args.points.now in
    let m = c.loop-shard.shard in
    let ranges = ranges_in c.args.batch.now.txns in
    let reaches = subst (λ (found : List Reach). AllZip (IsReach points) ranges found) (sym c.deref.ensures.value) c.in_ok-reaches.ensures.reaches in
    let inside : m ≤ length points =
    omega (arith, c.loop-shard-test.true, c.shard_count-shard-end.ensures.count, length-shards [] points) in
    let R = λ (shard : Shard) (reads : List (List ℕ)). AreNumbered shard c.args.batch.now reads in
    let reported = reported_of_shard points m inside ranges c.deref.result.now reaches in
    subst (λ (all : List (List (List ℕ))). AllZip R (take (m + 1) (shards points)) all) (sym c.in_ok-push.ensures.items)
    (AllZip-more R (shards points) m c.loop-shard.all.items (shard_at points m) c.in_ok-number_by.field-0 (shard_get points m inside)
    c.loop-shard.invariant (c.in_ok-number_by.ensures.numbered (shard_at points m) reported))
