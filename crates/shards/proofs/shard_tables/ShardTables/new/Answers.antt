use Rattle.std.proofs.Common.{◌++◌, ◌∙◌, ℕ, List, refl, ap, subst, append_assoc}
use Rattle.keys.specs.Key.{IsKey}
use Rattle.shards.specs.Built.{LiesAt}
use Rattle.shards.specs.Reach.{shard_at}
use Rattle.shards.proofs.Appended.{lies_kept}
use Rattle.shards.proofs.BuiltTables.{built_none}
use Rattle.shards.proofs.Going.{some_of}
use Rattle.shards.proofs.shard_tables.ShardTables.new.Goals as goal

pub returns : goal.returns
returns c =
    let points = c.args.points.now in
    let m = c.args.shard in
    record {
      built = built_none (shard_at points m) m _ (record {
        from = subst IsKey c.first_key.ensures.from c.first_key.ensures.is_key;
        to = subst IsKey c.end_key.ensures.to c.end_key.ensures.is_key;
        some = some_of points c.shard_count.ensures.points.rising m;
      }) (record {
        number = refl;
        from = lies_kept c.put_key.new.buffer.items c.end_key.result.now c.put_key-2.new.buffer.items c.in_ok-from.from _
            c.in_ok-to.ensures.key (subst (LiesAt c.put_key.new.buffer.items c.in_ok-from.from) c.first_key.ensures.from c.in_ok-from.ensures.at);
        to = subst (LiesAt c.put_key-2.new.buffer.items c.in_ok-to.to) c.end_key.ensures.to c.in_ok-to.ensures.at;
      }) c.new.ensures.items c.new-2.ensures.items c.new-3.ensures.items c.new-4.ensures.items;
      buffer = (
        c.first_key.result.now ++ c.end_key.result.now,
        c.in_ok-to.ensures.key ∙ ap (λ (bytes : List ℕ). bytes ++ c.end_key.result.now) c.in_ok-from.ensures.key
            ∙ append_assoc c.args.buffer.items c.first_key.result.now c.end_key.result.now,
      );
    }
