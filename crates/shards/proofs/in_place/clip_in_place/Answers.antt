use Rattle.std.proofs.Common.{◌≤◌, ◌∙◌, List, [], FitsSigned, w64, length, sym, ap, subst, rules, arith}
use Rattle.std.specs.Prelude.{Option, IsSomeAnd}
use Rattle.std.specs.List.{AllZip}
use Rattle.std.proofs.lemmas.Int.{to_z-of_z}
use Rattle.keyspace.specs.declared.batch.Batch.{Batch}
use Rattle.keyspace.specs.declared.txn.Txn.{Txn}
use Rattle.serial.specs.Shards.{Shard}
use Rattle.shards.specs.Clips.{IsClipped, IsTxnClip}
use Rattle.shards.specs.Reach.{shard_at}
use Rattle.shards.proofs.ShardList.{length-shards, shard_get}
use Rattle.shards.proofs.in_place.clip_in_place.Goals as goal

pub clip_tables-requires-clause-txns : goal.clip_tables-requires-clause-txns
clip_tables-requires-clause-txns c =
    let batch = c.args.batch in
    (batch.txns, c.into_tables.ensures.txns, batch.few)

pub into_txns-requires : goal.into_txns-requires
into_txns-requires c =
    let batch = c.args.batch in
    record {
      built = (
        shard_at c.args.points.now c.args.shard,
        c.args.shard,
        batch.txns,
        c.in_ok-tables.ensures.built batch.txns c.into_tables.ensures.txns batch.few,
        batch.few,
      );
    }

pub returns : goal.returns
returns c =
    let b = c.args.batch in
    let points = c.args.points.now in
    let m = c.args.shard in
    let shard = shard_at points m in
    let inside : m ≤ length points = omega (arith, c.requires.within, length-shards [] points) in
    let previous : FitsSigned w64 c.batch.inside.previous = search rules in
    let version : FitsSigned w64 c.batch.inside.version = search rules in
    let received : FitsSigned w64 c.batch.inside.received = search rules in
    let made = c.in_ok-txns.ensures.clips shard m b.txns (c.in_ok-tables.ensures.built b.txns c.into_tables.ensures.txns b.few) in
    record {
      clip = subst (λ (o : Option Shard). IsSomeAnd o (λ shard. IsClipped shard b (record { batch = c.new.result; reads = c.in_ok-txns.reads })))
          (sym (shard_get points m inside)) (record {
            batch = record {
              previous = c.new.ensures.previous ∙ to_z-of_z w64 c.batch.inside.previous previous ∙ ap (λ (x : Batch). x.previous) c.batch.view_is;
              version = c.new.ensures.version ∙ to_z-of_z w64 c.batch.inside.version version ∙ ap (λ (x : Batch). x.version) c.batch.view_is;
              received = c.new.ensures.received ∙ to_z-of_z w64 c.batch.inside.received received
                  ∙ ap (λ (x : Batch). x.received) c.batch.view_is;
              txns = subst (λ (txns : List Txn). AllZip (IsTxnClip shard) b.txns txns) (sym c.new.ensures.txns) made.0;
            };
            reads = made.1;
          });
    }
