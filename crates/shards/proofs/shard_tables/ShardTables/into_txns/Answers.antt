use Rattle.std.proofs.Common.{◌∙◌, length, ap, arith}
use Rattle.std.proofs.lemmas.List.{length-map}
use Rattle.keyspace.specs.storage.Fields.{txn_fields}
use Rattle.keyspace.proofs.callers.Putting.{length-reported}
use Rattle.shards.specs.Built.{clip_txn}
use Rattle.shards.proofs.ClipLists.{txns_from_fields}
use Rattle.shards.proofs.shard_tables.ShardTables.into_txns.Goals as goal

pub from_tables-requires-clause-few : goal.from_tables-requires-clause-few
from_tables-requires-clause-few c =
    let tables = c.args.self in
    let built = c.requires.built in
    omega (
      arith,
      tables.rows.ok.0,
      length-reported tables.buffer.items tables.spans.items 0 tables.rows.items,
      ap length built.3.reported,
      length-map built.2 (clip_txn built.0),
      built.4,
    )

pub returns : goal.returns
returns c =
    let built = c.requires.built in
    let txns = c.in_ok-txns.txns in
    record {
      clips = λ shard m sent is. (
        txns_from_fields shard sent txns (c.in_ok-txns.ensures.fields ∙ is.reported),
        c.new.ensures.indices ∙ is.reads,
      );
      few = omega (
        arith,
        length-map txns txn_fields,
        ap length c.in_ok-txns.ensures.fields,
        ap length built.3.reported,
        length-map built.2 (clip_txn built.0),
        built.4,
      );
    }
