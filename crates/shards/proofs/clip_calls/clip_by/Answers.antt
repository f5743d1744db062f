use Rattle.std.proofs.Common.{◌≡◌, ◌≤◌, ◌<◌, ◌+◌, ◌++◌, ◌∙◌, List, [], length, take, drop, sym, ap, subst, arith, length-append, length-take, take_all}
use Rattle.std.specs.Prelude.{Some, slice_get}
use Rattle.std.specs.List.{AllZip}
use Rattle.std.proofs.lemmas.Result.{IfOk-weaker}
use Rattle.std.proofs.lemmas.Slice.Zip.{AllZip-long}
use Rattle.keys.proofs.callers.Lists.{AllZip-split}
use Rattle.keys.specs.declared.range.Range.{Range}
use Rattle.keyspace.specs.declared.txn.Txn.{Txn}
use Rattle.keyspace.specs.storage.BatchRanges.{ranges_in}
use Rattle.serial.specs.Shards.{shards}
use Rattle.shards.specs.declared.clipped.Clipped.{Clipped}
use Rattle.shards.specs.declared.reach.Reach.{Reach}
use Rattle.shards.specs.Built.{IsBuilt}
use Rattle.shards.specs.Clips.{IsClipped}
use Rattle.shards.specs.Reach.{shard_at, IsReported}
use Rattle.shards.proofs.BuiltTables.{ranges_next, reported_of_shard}
use Rattle.shards.proofs.Leasts.{take_next}
use Rattle.shards.proofs.ShardList.{length-shards, shard_get}
use Rattle.shards.proofs.clip_calls.clip_by.Goals.{Start, After-len-in-loop-index, After-txn-1}
use Rattle.shards.proofs.clip_calls.clip_by.Goals as goal

inside : (c : Start) → c.args.shard ≤ length c.args.points.now
inside c = omega (arith, c.requires.within, length-shards [] c.args.points.now)

is_there : (c : Start) → slice_get (shards c.args.points.now) c.args.shard ≡ Some (shard_at c.args.points.now c.args.shard)
is_there c = shard_get c.args.points.now c.args.shard (inside c)

pub returns-in_err-tables-clause-shard : goal.returns-in_err-tables-clause-shard
returns-in_err-tables-clause-shard c = is_there (goal.at.returns-in_err-tables-clause-shard c).Start

pub returns-in_err-put-clause-shard : goal.returns-in_err-put-clause-shard
returns-in_err-put-clause-shard c = is_there (goal.at.returns-in_err-put-clause-shard c).Start

pub returns-clause-shard : goal.returns-clause-shard
returns-clause-shard c = is_there (goal.at.returns-clause-shard c).Start

pub loop-index-init : goal.loop-index-init
loop-index-init c =
    let at = goal.at.loop-index-init c in
    record {
      built = c.in_ok-tables.ensures.built;
      rest = reported_of_shard c.args.points.now c.args.shard (inside at.Start) (ranges_in c.args.batch.now.txns) c.args.reaches.now
          c.requires.reaches;
    }

-- what is left begins with the ranges of the next transaction
left : (c : After-len-in-loop-index)
    → AllZip (IsReported (shard_at c.args.points.now c.args.shard) c.args.shard)
    ((c.txn-txn.result.reads ++ c.txn-txn.result.writes) ++ ranges_in (drop (c.loop-index.index + 1) c.args.batch.now.txns)) c.loop-index.rest.now
left c =
    subst (λ (ranges : List Range). AllZip (IsReported (shard_at c.args.points.now c.args.shard) c.args.shard) ranges c.loop-index.rest.now)
    (ranges_next c.args.batch.now.txns c.loop-index.index c.txn-txn.result c.txn-txn.ensures.txn) c.loop-index.invariant.rest

-- it has that many ranges
count : (c : After-len-in-loop-index) → c.len.result + c.len-in-loop-index.result ≡ length (c.txn-txn.result.reads ++ c.txn-txn.result.writes)
count c =
    let t = c.txn-txn.result in
    let reads = ap (λ (u : Txn). length u.reads) c.txn.view_is in
    let writes = ap (λ (u : Txn). length u.writes) c.txn.view_is in
    omega (arith, c.len.ensures.count, c.len-in-loop-index.ensures.count, reads, writes, length-append t.reads t.writes)

pub split_at-requires : goal.split_at-requires
split_at-requires c =
    let t = c.txn-txn.result in
    let later = ranges_in (drop (c.loop-index.index + 1) c.args.batch.now.txns) in
    let long = AllZip-long (IsReported (shard_at c.args.points.now c.args.shard) c.args.shard) ((t.reads ++ t.writes) ++ later)
    c.loop-index.rest.now (left c) in
    omega (arith, long, count c, length-append (t.reads ++ t.writes) later)

few : (c : After-len-in-loop-index) → length (take c.loop-index.index c.args.batch.now.txns) < 4096
few c =
    omega (arith, length-take c.loop-index.index c.args.batch.now.txns, c.loop-index-test.true, c.len-index-end.ensures.count, c.args.batch.now.few)

own : (c : After-txn-1)
    → AllZip (IsReported (shard_at c.args.points.now c.args.shard) c.args.shard) (c.txn-txn.result.reads ++ c.txn-txn.result.writes) c.split_at.result.0.now
own c =
    let at = goal.at.put-requires c in
    let t = c.txn-txn.result in
    let R = IsReported (shard_at c.args.points.now c.args.shard) c.args.shard in
    let later = ranges_in (drop (c.loop-index.index + 1) c.args.batch.now.txns) in
    let both = AllZip-split R (t.reads ++ t.writes) later c.loop-index.rest.now (left at.After-len-in-loop-index) in
    subst (λ (reaches : List Reach). AllZip R (t.reads ++ t.writes) reaches)
    (ap (λ n. take n c.loop-index.rest.now) (sym (count at.After-len-in-loop-index)) ∙ sym c.split_at.ensures.front) both.0

pub put-requires : goal.put-requires
put-requires c =
    let at = goal.at.put-requires c in
    record {
      built = (
        shard_at c.args.points.now c.args.shard,
        c.args.shard,
        take c.loop-index.index c.args.batch.now.txns,
        c.loop-index.invariant.built,
        few at.After-len-in-loop-index,
        own c,
      );
    }

pub loop-index-preserved : goal.loop-index-preserved
loop-index-preserved c =
    let at = goal.at.loop-index-preserved c in
    let t = c.txn-txn.result in
    let txns = c.args.batch.now.txns in
    let i = c.loop-index.index in
    let m = c.args.shard in
    let shard = shard_at c.args.points.now m in
    let R = IsReported shard m in
    let later = ranges_in (drop (i + 1) txns) in
    let both = AllZip-split R (t.reads ++ t.writes) later c.loop-index.rest.now (left at.After-len-in-loop-index) in
    record {
      built = subst (λ (front : List Txn). IsBuilt shard m front c.put.new.self) (sym (take_next txns i t c.txn-txn.ensures.txn))
          (c.in_ok-put.ensures.built shard m (take i txns) c.loop-index.invariant.built (few at.After-len-in-loop-index) (own at.After-txn-1));
      rest = subst (λ (reaches : List Reach). AllZip R later reaches)
          (ap (λ n. drop n c.loop-index.rest.now) (sym (count at.After-len-in-loop-index)) ∙ sym c.split_at.ensures.back) both.1;
    }

pub returns-clause-clip : goal.returns-clause-clip
returns-clause-clip c =
    let txns = c.args.batch.now.txns in
    let m = c.args.shard in
    let shard = shard_at c.args.points.now m in
    let all : take c.loop-index.index txns ≡ txns =
    take_all c.loop-index.index txns (omega (arith, c.loop-index-test.false, c.len-index-end.ensures.count)) in
    let built = subst (λ (front : List Txn). IsBuilt shard m front c.loop-index.tables) all c.loop-index.invariant.built in
    IfOk-weaker c.into_clipped.result _ (λ (clipped : Clipped). IsClipped shard c.args.batch.now clipped)
    (λ clipped clips. clips shard m built) c.into_clipped.ensures.clipped
