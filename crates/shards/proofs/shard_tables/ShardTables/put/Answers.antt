use Rattle.std.proofs.Common.{◌≡◌, ◌≤◌, ◌<◌, ◌+◌, ◌-◌, ◌++◌, ◌∷◌, ◌∙◌, ℕ, List, [], FitsSigned, w64, length, take, drop, sym, ap, subst, rules, arith, length-append}
use Rattle.std.specs.List.{AllZip}
use Rattle.std.proofs.lemmas.Int.{to_z-of_z}
use Rattle.std.proofs.lemmas.List.{length-map}
use Rattle.std.proofs.lemmas.Slice.Zip.{AllZip-long}
use Rattle.keys.proofs.callers.Lists.{AllZip-split}
use Rattle.keyspace.specs.declared.txn.Txn.{Txn}
use Rattle.keyspace.specs.Judge.{places_from}
use Rattle.keyspace.specs.storage.Putting.{ArePut}
use Rattle.keyspace.proofs.callers.Putting.{length-put, few_spans, length-reported}
use Rattle.serial.specs.Shards.{Shard}
use Rattle.shards.specs.declared.reach.Reach.{Reach}
use Rattle.shards.specs.Built.{IsBuilt, HasBounds, clips_of, clip_txn}
use Rattle.shards.specs.Clips.{goes_to, read_indices}
use Rattle.shards.specs.Reach.{IsReported}
use Rattle.shards.proofs.Appended.{bounds_kept}
use Rattle.shards.proofs.BuiltTables.{built_put}
use Rattle.shards.proofs.ClipLists.{few_clips}
use Rattle.shards.proofs.shard_tables.ShardTables.put.Goals.{Start, After-len, After-split_at, In_ok-put_clips-2}
use Rattle.shards.proofs.shard_tables.ShardTables.put.Goals as goal

-- the reaches of the transaction, as it is opened
opened : (c : After-len) (shard : Shard) (m : ℕ)
    → AllZip (IsReported shard m) (c.args.txn.now.reads ++ c.args.txn.now.writes) c.args.reaches.now
    → AllZip (IsReported shard m) (c.txn.inside.reads ++ c.txn.inside.writes) c.args.reaches.now
opened c shard m zipped =
    subst (λ (t : Txn). AllZip (IsReported shard m) (t.reads ++ t.writes) c.args.reaches.now) (sym c.txn.view_is) zipped

pub split_at-requires : goal.split_at-requires
split_at-requires c =
    let zipped = opened c c.requires.built.0 c.requires.built.1 c.requires.built.5 in
    let long = AllZip-long (IsReported c.requires.built.0 c.requires.built.1) (c.txn.inside.reads ++ c.txn.inside.writes) c.args.reaches.now zipped in
    omega (arith, long, c.len.ensures.count, length-append c.txn.inside.reads c.txn.inside.writes)

-- those of its read ranges, and those of its write ranges
split : (c : After-split_at) (shard : Shard) (m : ℕ)
    → AllZip (IsReported shard m) (c.txn.inside.reads ++ c.txn.inside.writes) c.args.reaches.now
    → AllZip (IsReported shard m) c.txn.inside.reads c.split_at.result.0.now × AllZip (IsReported shard m) c.txn.inside.writes c.split_at.result.1.now
split c shard m zipped =
    let R = IsReported shard m in
    let both = AllZip-split R c.txn.inside.reads c.txn.inside.writes c.args.reaches.now zipped in (
      subst (λ (reaches : List Reach). AllZip R c.txn.inside.reads reaches)
          (ap (λ n. take n c.args.reaches.now) (sym c.len.ensures.count) ∙ sym c.split_at.ensures.front) both.0,
      subst (λ (reaches : List Reach). AllZip R c.txn.inside.writes reaches)
          (ap (λ n. drop n c.args.reaches.now) (sym c.len.ensures.count) ∙ sym c.split_at.ensures.back) both.1,
    )

pub put_clips-requires-2 : goal.put_clips-requires-2
put_clips-requires-2 c =
    let at = goal.at.put_clips-requires-2 c in
    let zipped = opened at.After-len c.requires.built.0 c.requires.built.1 c.requires.built.5 in
    let both = split at.After-split_at c.requires.built.0 c.requires.built.1 zipped in
    record { count = AllZip-long (IsReported c.requires.built.0 c.requires.built.1) c.txn.inside.writes c.split_at.result.1.now both.1 }

-- all that is put of the ranges of a transaction
record IsPut (c : In_ok-put_clips-2) (shard : Shard) (m : ℕ) : Type 0 where
  reads : ArePut c.args.self.now.buffer.items c.args.self.now.spans.items (clips_of shard c.txn.inside.reads) c.put_clips.new.buffer.items
      c.put_clips.new.spans.items
  writes : ArePut c.put_clips.new.buffer.items c.put_clips.new.spans.items (clips_of shard c.txn.inside.writes) c.put_clips-2.new.buffer.items
      c.put_clips-2.new.spans.items
  bounds : HasBounds shard m c.put_clips-2.new.buffer.items c.args.self.now.bounds
  few_reads : length c.put_clips.new.spans.items ≤ length c.args.self.now.spans.items + 1024
  more_writes : length c.put_clips-2.new.spans.items ≡ length c.put_clips.new.spans.items + length (clips_of shard c.txn.inside.writes)
  few_writes : length (clips_of shard c.txn.inside.writes) ≤ 1024

is_put : (c : In_ok-put_clips-2) (shard : Shard) (m : ℕ) → HasBounds shard m c.args.self.now.buffer.items c.args.self.now.bounds
    → AllZip (IsReported shard m) c.txn.inside.reads c.split_at.result.0.now × AllZip (IsReported shard m) c.txn.inside.writes c.split_at.result.1.now
    → IsPut c shard m
is_put c shard m bounds zips =
    let first = c.in_ok-put_clips.ensures.put shard m bounds zips.0 in
    let later = bounds_kept shard m c.args.self.now.buffer.items first.bytes c.put_clips.new.buffer.items c.args.self.now.bounds
    first.buffer_is bounds in
    let second = c.in_ok-put_clips-2.ensures.put shard m later zips.1 in
    record {
      reads = first;
      writes = second;
      bounds = bounds_kept shard m c.put_clips.new.buffer.items second.bytes c.put_clips-2.new.buffer.items c.args.self.now.bounds
          second.buffer_is later;
      few_reads = omega (arith, length-put _ _ _ _ _ first, few_clips shard c.txn.inside.reads, c.txn.inside.few_reads);
      more_writes = length-put _ _ _ _ _ second;
      few_writes = omega (arith, few_clips shard c.txn.inside.writes, c.txn.inside.few_writes);
    }

few_spans_of : (c : Start) (shard : Shard) (m : ℕ) (txns : List Txn) → IsBuilt shard m txns c.args.self.now → length txns < 4096
    → length c.args.self.now.spans.items ≤ 8386560
few_spans_of c shard m txns built few =
    let tables = c.args.self.now in
    omega (
      arith,
      few,
      few_spans tables.buffer.items tables.spans.items tables.rows.items built.fit,
      length-reported tables.buffer.items tables.spans.items 0 tables.rows.items,
      ap length built.reported,
      length-map txns (clip_txn shard),
    )

pub overflow_cast-len : goal.overflow_cast-len
overflow_cast-len c =
    let at = goal.at.overflow_cast-len c in
    let it = c.requires.built in
    let put = is_put at.In_ok-put_clips-2 it.0 it.1 it.3.bounds
    (split at.After-split_at it.0 it.1 (opened at.After-len it.0 it.1 it.5)) in
    let fits : c.len-3.result ≤ 8388608 =
    omega (arith, few_spans_of at.Start it.0 it.1 it.2 it.3 it.4, put.few_reads, put.more_writes, put.few_writes, c.put_clips-2.new.spans.ok.0) in
    search rules

pub overflow_sub-len : goal.overflow_sub-len
overflow_sub-len c =
    let at = goal.at.overflow_sub-len c in
    let it = c.requires.built in
    let put = is_put at.In_ok-put_clips-2 it.0 it.1 it.3.bounds
    (split at.After-split_at it.0 it.1 (opened at.After-len it.0 it.1 it.5)) in
    omega (arith, put.more_writes, c.len-middle.ensures, c.len-4.ensures, c.put_clips.new.spans.ok.0, c.put_clips-2.new.spans.ok.0)

pub overflow_cast-len-2 : goal.overflow_cast-len-2
overflow_cast-len-2 c =
    let at = goal.at.overflow_cast-len-2 c in
    let it = c.requires.built in
    let put = is_put at.In_ok-put_clips-2 it.0 it.1 it.3.bounds
    (split at.After-split_at it.0 it.1 (opened at.After-len it.0 it.1 it.5)) in
    let fits : c.len-4.result - c.len-middle.result ≤ 1024 =
    omega (arith, put.more_writes, put.few_writes, c.len-middle.ensures, c.len-4.ensures, c.put_clips.new.spans.ok.0, c.put_clips-2.new.spans.ok.0) in
    search rules

pub returns : goal.returns
returns c =
    let at = goal.at.returns c in
    let old = c.args.self.now in
    let t = c.args.txn.now in
    let inside = c.txn.inside in
    let buffer₁ = c.put_clips.new.buffer.items in
    let spans₁ = c.put_clips.new.spans.items in
    let buffer₂ = c.put_clips-2.new.buffer.items in
    let spans₂ = c.put_clips-2.new.spans.items in
    let fits : FitsSigned w64 inside.snapshot = search rules in
    record {
      built = λ shard m txns built few zipped.
          let zips = split at.After-split_at shard m (opened at.After-len shard m zipped) in
          let put = is_put at.In_ok-put_clips-2 shard m built.bounds zips in
          let reads : clips_of shard inside.reads ≡ clips_of shard t.reads = ap (λ (u : Txn). clips_of shard u.reads) c.txn.view_is in
          let writes : clips_of shard inside.writes ≡ clips_of shard t.writes = ap (λ (u : Txn). clips_of shard u.writes) c.txn.view_is in
          let own : AllZip (IsReported shard old.bounds.shard) inside.reads c.split_at.result.0.now =
          subst (λ (n : ℕ). AllZip (IsReported shard n) inside.reads c.split_at.result.0.now) (sym built.bounds.number) zips.0 in
          let indices : c.put_indices.new.indices.items ≡ old.indices.items ++ read_indices shard t =
          c.in_ok-put_indices.ensures.put shard inside.reads own
          ∙ ap (λ (u : Txn). old.indices.items ++ places_from 0 (goes_to shard) u.reads) c.txn.view_is in
          built_put shard m txns t old _ buffer₁ spans₁ _ built
          (subst (λ ranges. ArePut old.buffer.items old.spans.items ranges buffer₁ spans₁) reads put.reads)
          (subst (λ ranges. ArePut buffer₁ spans₁ ranges buffer₂ spans₂) writes put.writes) put.bounds
          (to_z-of_z w64 inside.snapshot fits ∙ ap (λ (u : Txn). u.snapshot) c.txn.view_is) (ap (λ (u : Txn). u.marked) c.txn.view_is)
          (omega (arith, put.more_writes, ap length writes, c.len-middle.ensures, c.len-4.ensures, c.put_clips.new.spans.ok.0, c.put_clips-2.new.spans.ok.0))
          (c.len-3.ensures ∙ c.put_clips-2.new.spans.ok.0) c.in_ok-push-2.ensures.items indices
          (c.in_ok-push.ensures.items
          ∙ ap (λ (n : ℕ). old.ends.items ++ n ∷ []) (c.len-2.ensures ∙ c.put_indices.new.indices.ok.0 ∙ ap length indices));
    }
