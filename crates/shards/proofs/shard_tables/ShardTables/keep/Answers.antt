use Rattle.std.proofs.Common.{◌≡◌, ◌≤◌, ◌<◌, ◌+◌, ◌-◌, ◌++◌, ◌∷◌, ◌∙◌, ℕ, List, [], FitsSigned, w64, length, sym, ap, subst, rules, arith, map, slice_range, All}
use Rattle.std.proofs.lemmas.Int.{to_z-of_z}
use Rattle.std.proofs.lemmas.List.{length-map}
use Rattle.keyspace.specs.declared.span.Span.{Span}
use Rattle.keyspace.specs.declared.txn.Txn.{Txn}
use Rattle.keyspace.specs.storage.Fields.{TxnFields, range_fields, txn_fields}
use Rattle.keyspace.specs.storage.Putting.{ArePut}
use Rattle.keyspace.specs.storage.Tables.{range_of_span, txn_of_row, LiesWithin}
use Rattle.keyspace.proofs.callers.Putting.{All-slice_range, length-put, few_spans, length-reported}
use Rattle.shards.specs.Built.{IsBuilt, HasBounds, clips_of, clip_txn}
use Rattle.shards.specs.Clips.{read_indices}
use Rattle.shards.specs.Cut.{shard_of_ends}
use Rattle.shards.proofs.BuiltTables.{built_put}
use Rattle.shards.proofs.ClipLists.{few_clips}
use Rattle.shards.proofs.shard_tables.ShardTables.keep.Goals.{Start, In_ok-keep_writes}
use Rattle.shards.proofs.shard_tables.ShardTables.keep.Goals as goal

-- all the spans lie in the buffer, so those of a part do
part_lies : (buffer : List ℕ) (spans : List Span) (from to : ℕ) → All (LiesWithin (length buffer)) spans
    → All (LiesWithin (length buffer)) (slice_range spans from to)
part_lies buffer spans from to lie = All-slice_range (LiesWithin (length buffer)) spans from to lie

-- the transaction has as many read ranges as there are spans of them
few_of : (buffer : List ℕ) (part : List Span) (t : Txn) → map (range_of_span buffer) part ≡ map range_fields t.reads → length part ≤ 1024
few_of buffer part t reported =
    omega (arith, ap length reported, length-map part (range_of_span buffer), length-map t.reads range_fields, t.few_reads)

pub keep_reads-requires : goal.keep_reads-requires
keep_reads-requires c =
    let row = c.args.row.now in
    let it = c.requires.built in
    let buffer = c.args.self.now.buffer.items in
    record {
      lie = rw c.deref.ensures.value (part_lies buffer c.args.spans.now c.args.from (row.end - row.writes) c.requires.lie);
      few = few_of buffer _ it.2 (ap (λ (f : TxnFields). f.reads) it.5);
    }

pub keep_writes-requires : goal.keep_writes-requires
keep_writes-requires c =
    let row = c.args.row.now in
    record {
      lie = rw c.deref-2.ensures.value
          (part_lies c.args.self.now.buffer.items c.args.spans.now (row.end - row.writes) row.end c.requires.lie);
    }

-- all that is put of the ranges of a transaction
record IsPut (c : In_ok-keep_writes) (t : Txn) : Type 0 where
  reads : ArePut c.args.self.now.buffer.items c.args.self.now.spans.items (clips_of (shard_of_ends c.args.shard.now) t.reads)
      c.args.self.now.buffer.items c.keep_reads.new.kept.items
  writes : ArePut c.args.self.now.buffer.items c.keep_reads.new.kept.items (clips_of (shard_of_ends c.args.shard.now) t.writes)
      c.args.self.now.buffer.items c.keep_writes.new.kept.items
  indices : c.keep_reads.new.indices.items ≡ c.args.self.now.indices.items ++ read_indices (shard_of_ends c.args.shard.now) t
  few_reads : length c.keep_reads.new.kept.items ≤ length c.args.self.now.spans.items + 1024
  more_writes : length c.keep_writes.new.kept.items
      ≡ length c.keep_reads.new.kept.items + length (clips_of (shard_of_ends c.args.shard.now) t.writes)
  few_writes : length (clips_of (shard_of_ends c.args.shard.now) t.writes) ≤ 1024

is_put : (c : In_ok-keep_writes) (m : ℕ) (t : Txn)
    → HasBounds (shard_of_ends c.args.shard.now) m c.args.self.now.buffer.items c.args.self.now.bounds
    → txn_of_row c.args.self.now.buffer.items c.args.spans.now c.args.from c.args.row.now ≡ txn_fields t → IsPut c t
is_put c m t bounds reported =
    let shard = shard_of_ends c.args.shard.now in
    let old = c.args.self.now in
    let spans = c.args.spans.now in
    let row = c.args.row.now in
    let middle = row.end - row.writes in
    let one = c.deref.ensures.value in
    let two = c.deref-2.ensures.value in
    let bounds_one = subst (λ (buffer : List ℕ). HasBounds shard m buffer old.bounds) (sym one) bounds in
    let bounds_two = subst (λ (buffer : List ℕ). HasBounds shard m buffer old.bounds) (sym two) bounds in
    let reads = subst (λ (buffer : List ℕ). map (range_of_span buffer) (slice_range spans c.args.from middle) ≡ map range_fields t.reads) (sym one)
    (ap (λ (f : TxnFields). f.reads) reported) in
    let writes = subst (λ (buffer : List ℕ). map (range_of_span buffer) (slice_range spans middle row.end) ≡ map range_fields t.writes) (sym two)
    (ap (λ (f : TxnFields). f.writes) reported) in
    let first = subst (λ (buffer : List ℕ). ArePut buffer old.spans.items (clips_of shard t.reads) buffer c.keep_reads.new.kept.items) one
    (c.in_ok-keep_reads.ensures.kept m t.reads bounds_one reads) in
    let second = subst (λ (buffer : List ℕ). ArePut buffer c.keep_reads.new.kept.items (clips_of shard t.writes) buffer
    c.keep_writes.new.kept.items) two (c.in_ok-keep_writes.ensures.kept m t.writes bounds_two writes) in
    record {
      reads = first;
      writes = second;
      indices = c.in_ok-keep_reads.ensures.indices m t.reads bounds_one reads;
      few_reads = omega (arith, length-put _ _ _ _ _ first, few_clips shard t.reads, t.few_reads);
      more_writes = length-put _ _ _ _ _ second;
      few_writes = omega (arith, few_clips shard t.writes, t.few_writes);
    }

few_spans_of : (c : Start) (m : ℕ) (txns : List Txn) → IsBuilt (shard_of_ends c.args.shard.now) m txns c.args.self.now
    → length txns < 4096 → length c.args.self.now.spans.items ≤ 8386560
few_spans_of c m txns built few =
    let tables = c.args.self.now in
    omega (
      arith,
      few,
      few_spans tables.buffer.items tables.spans.items tables.rows.items built.fit,
      length-reported tables.buffer.items tables.spans.items 0 tables.rows.items,
      ap length built.reported,
      length-map txns (clip_txn (shard_of_ends c.args.shard.now)),
    )

pub overflow_cast-len : goal.overflow_cast-len
overflow_cast-len c =
    let at = goal.at.overflow_cast-len c in
    let it = c.requires.built in
    let put = is_put at.In_ok-keep_writes it.0 it.2 it.3.bounds it.5 in
    let fits : c.len-2.result ≤ 8388608 =
    omega (arith, few_spans_of at.Start it.0 it.1 it.3 it.4, put.few_reads, put.more_writes, put.few_writes, c.keep_writes.new.kept.ok.0) in
    search rules

pub overflow_sub-len : goal.overflow_sub-len
overflow_sub-len c =
    let at = goal.at.overflow_sub-len c in
    let it = c.requires.built in
    let put = is_put at.In_ok-keep_writes it.0 it.2 it.3.bounds it.5 in
    omega (arith, put.more_writes, c.len-count.ensures, c.len-3.ensures, c.keep_reads.new.kept.ok.0, c.keep_writes.new.kept.ok.0)

pub overflow_cast-len-2 : goal.overflow_cast-len-2
overflow_cast-len-2 c =
    let at = goal.at.overflow_cast-len-2 c in
    let it = c.requires.built in
    let put = is_put at.In_ok-keep_writes it.0 it.2 it.3.bounds it.5 in
    let fits : c.len-3.result - c.len-count.result ≤ 1024 =
    omega (arith, put.more_writes, put.few_writes, c.len-count.ensures, c.len-3.ensures, c.keep_reads.new.kept.ok.0, c.keep_writes.new.kept.ok.0) in
    search rules

pub returns-clause-built : goal.returns-clause-built
returns-clause-built c = λ m txns t built few reported.
    let at = goal.at.returns-clause-built c in
    let shard = shard_of_ends c.args.shard.now in
    let old = c.args.self.now in
    let row = c.args.row.now in
    let fits : FitsSigned w64 row.snapshot = search rules in
    let put = is_put at.In_ok-keep_writes m t built.bounds reported in
    built_put shard m txns t old _ old.buffer.items c.keep_reads.new.kept.items _ built put.reads put.writes built.bounds
    (to_z-of_z w64 row.snapshot fits ∙ ap (λ (f : TxnFields). f.snapshot) reported) (ap (λ (f : TxnFields). f.marked) reported)
    (omega (arith, put.more_writes, c.len-count.ensures, c.len-3.ensures, c.keep_reads.new.kept.ok.0, c.keep_writes.new.kept.ok.0))
    (c.len-2.ensures ∙ c.keep_writes.new.kept.ok.0) c.in_ok-push-2.ensures.items put.indices
    (c.in_ok-push.ensures.items
    ∙ ap (λ (n : ℕ). old.ends.items ++ n ∷ []) (c.len.ensures ∙ c.keep_reads.new.indices.ok.0 ∙ ap length put.indices))
