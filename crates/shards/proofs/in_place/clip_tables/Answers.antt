use Rattle.std.proofs.Common.{◌≡◌, ◌∙◌, ℕ, List, [], length, map, sym, ap, subst, All}
use Rattle.keyspace.specs.declared.txn.Txn.{Txn}
use Rattle.keyspace.specs.storage.Fields.{txn_fields}
use Rattle.keyspace.specs.storage.Tables.{txns_of_tables, LiesWithin}
use Rattle.keyspace.proofs.callers.Putting.{reported_kept, within_kept}
use Rattle.serial.specs.Shards.{Shard}
use Rattle.shards.specs.Built.{AreLeft, IsBuilt}
use Rattle.shards.specs.Cut.{shard_of_ends}
use Rattle.shards.proofs.in_place.clip_tables.Goals.{In_ok-tables}
use Rattle.shards.proofs.in_place.clip_tables.Goals as goal

-- the transactions lie in the buffer with the ends of the shard
left : (c : In_ok-tables) (txns : List Txn)
    → txns_of_tables c.args.own.buffer.items c.args.own.spans.items c.args.own.rows.items ≡ map txn_fields txns
    → AreLeft c.in_ok-tables.tables.buffer.items c.args.own.spans.items 0 c.args.own.rows.items txns
left c txns reported =
    let own = c.args.own in
    let more = c.in_ok-tables.ensures.buffer in
    record {
      reported = ap (λ (buffer : List ℕ). txns_of_tables buffer own.spans.items own.rows.items) more.1
          ∙ reported_kept own.buffer.items more.0 own.spans.items own.rows.items c.requires.tables ∙ reported;
      fit = c.requires.tables.rows_fit;
    }

-- the tables are those of the shard between its ends
none_built : (c : In_ok-tables) → IsBuilt (shard_of_ends c.of-ends.result) c.args.shard [] c.in_ok-tables.tables
none_built c =
    subst (λ (shard : Shard). IsBuilt shard c.args.shard [] c.in_ok-tables.tables) (sym c.of-ends.ensures.shard) c.in_ok-tables.ensures.built

pub keep_all-requires-clause-lie : goal.keep_all-requires-clause-lie
keep_all-requires-clause-lie c =
    let own = c.args.own in
    let more = c.in_ok-tables.ensures.buffer in
    rw c.deref-2.ensures.value
    (subst (λ (buffer : List ℕ). All (LiesWithin (length buffer)) own.spans.items) (sym more.1)
    (within_kept own.buffer.items more.0 own.spans.items c.requires.tables.spans_within))

pub keep_all-requires-clause-built : goal.keep_all-requires-clause-built
keep_all-requires-clause-built c =
    let at = goal.at.keep_all-requires-clause-built c in
    let it = c.requires.txns in
    rw (c.deref.ensures.value, c.deref-2.ensures.value)
    (c.args.shard, it.0, none_built at.In_ok-tables, it.2, left at.In_ok-tables it.0 it.1)

pub returns : goal.returns
returns c = record {
  built = λ txns reported few.
      let at = goal.at.returns c in
      subst (λ (shard : Shard). IsBuilt shard c.args.shard txns c.keep_all.new.self) c.of-ends.ensures.shard
      (c.in_ok-keep_all.ensures.built c.args.shard txns (none_built at.In_ok-tables) few
      (rw (c.deref.ensures.value, c.deref-2.ensures.value) (left at.In_ok-tables txns reported)));
}
