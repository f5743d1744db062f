use Rattle.std.proofs.Common.{◌∙◌, List, FitsSigned, w64, sym, subst, rules}
use Rattle.std.specs.List.{AllZip}
use Rattle.std.proofs.lemmas.Int.{to_z-of_z}
use Rattle.keyspace.specs.declared.txn.Txn.{Txn}
use Rattle.shards.specs.Clips.{IsTxnClip}
use Rattle.shards.proofs.shard_tables.ShardTables.into_clipped.Goals as goal

pub into_txns-requires : goal.into_txns-requires
into_txns-requires c =
    let built = c.requires.built in
    record { built = (built.0, built.1, c.args.batch.now.txns, built.2, c.args.batch.now.few) }

pub returns : goal.returns
returns c =
    let b = c.args.batch.now in
    let previous : FitsSigned w64 b.previous = search rules in
    let version : FitsSigned w64 b.version = search rules in
    let received : FitsSigned w64 b.received = search rules in
    record {
      clipped = λ shard m built.
          let made = c.in_ok-txns.ensures.clips shard m b.txns built in
          record {
            batch = record {
              previous = c.new.ensures.previous ∙ to_z-of_z w64 b.previous previous;
              version = c.new.ensures.version ∙ to_z-of_z w64 b.version version;
              received = c.new.ensures.received ∙ to_z-of_z w64 b.received received;
              txns = subst (λ (txns : List Txn). AllZip (IsTxnClip shard) b.txns txns) (sym c.new.ensures.txns) made.0;
            };
            reads = made.1;
          };
    }
