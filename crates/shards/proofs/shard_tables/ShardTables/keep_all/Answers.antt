use Rattle.std.proofs.Common.{◌≡◌, ◌≤◌, ◌<◌, ◌∙◌, ℕ, List, Vec, Global, length, take, get_or, false, refl, sym, ap, subst, arith, length-take, take_all, All}
use Rattle.std.specs.Prelude.{pos}
use Rattle.std.proofs.lemmas.List.{length-map}
use Rattle.std.proofs.lemmas.Option.{slice_get-get_or, slice_get_within}
use Rattle.keyspace.specs.declared.row.Row.{Row}
use Rattle.keyspace.specs.declared.txn.Txn.{Txn}
use Rattle.keyspace.specs.storage.Fields.{txn_fields}
use Rattle.keyspace.specs.storage.Tables.{txn_of_row, LiesWithin}
use Rattle.keyspace.proofs.callers.Putting.{length-reported}
use Rattle.shards.specs.Built.{IsBuilt}
use Rattle.shards.specs.Cut.{shard_of_ends}
use Rattle.shards.proofs.Kept.{next_row}
use Rattle.shards.proofs.Leasts.{take_next}
use Rattle.shards.proofs.shard_tables.ShardTables.keep_all.Goals as goal

pub loop-row-init : goal.loop-row-init
loop-row-init c = record { buffer = refl; each = λ m txns built few left. (built, left) }

no_row : Row
no_row = record { snapshot = pos 0; end = 0; writes = 0; marked = false }

pub keep-requires : goal.keep-requires
unfolding no_row
keep-requires c =
    let l = c.loop-row in
    let it = c.requires.built in
    let old = c.args.self.now in
    let spans = c.args.spans.now in
    let rows = c.args.rows.now in
    let i = l.row-index in
    let row = get_or rows i no_row in
    let before = l.invariant.each it.0 it.1 it.2 it.3 it.4 in
    let next = next_row old.buffer.items spans l.from rows it.1 i row (slice_get-get_or rows i no_row c.loop-row-test.true) before.1 in
    let inside : i < length it.1 = slice_get_within it.1 i next.0 next.1 in
    record {
      rows = next.4;
      within = next.5;
      lie = subst (λ (buffer : Vec ℕ Global). All (LiesWithin (length buffer.items)) spans) (sym l.invariant.buffer) c.requires.lie;
      built = (
        it.0,
        take i it.1,
        next.0,
        before.0,
        omega (arith, length-take i it.1, inside, it.3),
        subst (λ (buffer : Vec ℕ Global). txn_of_row buffer.items spans l.from row ≡ txn_fields next.0) (sym l.invariant.buffer) next.2,
      );
    }

pub loop-row-preserved : goal.loop-row-preserved
unfolding no_row
loop-row-preserved c = record {
  buffer = c.keep.ensures.buffer ∙ c.loop-row.invariant.buffer;
  each = λ m txns built few left.
      let l = c.loop-row in
      let old = c.args.self.now in
      let spans = c.args.spans.now in
      let rows = c.args.rows.now in
      let i = l.row-index in
      let row = get_or rows i no_row in
      let before = l.invariant.each m txns built few left in
      let next = next_row old.buffer.items spans l.from rows txns i row (slice_get-get_or rows i no_row c.loop-row-test.true) before.1 in
      let inside : i < length txns = slice_get_within txns i next.0 next.1 in (
        subst (λ (front : List Txn). IsBuilt (shard_of_ends c.args.shard.now) m front c.keep.new.self)
            (sym (take_next txns i next.0 next.1))
            (c.in_ok-keep.ensures.built m (take i txns) next.0 before.0 (omega (arith, length-take i txns, inside, few))
            (subst (λ (buffer : Vec ℕ Global). txn_of_row buffer.items spans l.from row ≡ txn_fields next.0)
            (sym l.invariant.buffer) next.2)),
        next.3,
      );
}

pub returns : goal.returns
returns c = record {
  built = λ m txns built few left.
      let l = c.loop-row in
      let old = c.args.self.now in
      let rows = c.args.rows.now in
      let count : length txns ≤ l.row-index =
      omega (
        arith,
        c.loop-row-test.false,
        ap length left.reported,
        length-map txns txn_fields,
        length-reported old.buffer.items c.args.spans.now 0 rows,
      ) in
      subst (λ (front : List Txn). IsBuilt (shard_of_ends c.args.shard.now) m front l.self) (take_all l.row-index txns count)
      (l.invariant.each m txns built few left).0;
}
