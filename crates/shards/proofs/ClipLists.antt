-- The clips of the ranges and of the transactions of a batch.
use Rattle.std.proofs.Common.{◌≡◌, suc, ◌≤◌, Bool, true, false, cond, List, [], ◌∷◌, length, map, ap, arith, All}
use Rattle.std.specs.Prelude.{filter}
use Rattle.std.specs.List.{AllZip}
use Rattle.std.proofs.lemmas.List.{length-map}
use Rattle.std.proofs.lemmas.List.Elements.{All-head, All-tail, All-map, All-weaker, filter_passes}
use Rattle.keys.specs.declared.range.Range.{Range}
use Rattle.keyspace.specs.declared.txn.Txn.{Txn}
use Rattle.keyspace.specs.storage.Fields.{TxnFields, range_fields, txn_fields, RangeHolds, TxnLimits}
use Rattle.serial.specs.Shards.{Shard}
use Rattle.shards.specs.Clips.{goes_to, IsClip, AreClips, IsTxnClip}
use Rattle.shards.specs.Built.{IsProper, clip_fields, clips_of, clip_txn}
use Rattle.shards.proofs.ClipKeys.{clip_of_range, clip_holds}

-- no more are kept than there are
length-filter : {X : Type 0} (test : X → Bool) (xs : List X) → length (filter test xs) ≤ length xs
length-filter test [] = omega arith
length-filter test (x ∷ xs) =
    let rest = length-filter test xs in
    elim (test x) as (λ b. length (cond b (x ∷ filter test xs) (filter test xs)) ≤ suc (length xs)) [
      | true ↦ omega (arith, rest)
      | false ↦ omega (arith, rest)
    ]

module _ (shard : Shard) where
  pub few_clips : (ranges : List Range) → length (clips_of shard ranges) ≤ length ranges
  few_clips ranges =
      omega (arith, length-map (filter (goes_to shard) ranges) (clip_fields shard), length-filter (goes_to shard) ranges)

  -- the ranges that are kept, and what has the fields of their clips
  kept_clips : (kept clips : List Range) → All (λ range. goes_to shard range ≡ true) kept
      → map range_fields clips ≡ map (clip_fields shard) kept → AllZip (IsClip shard) kept clips
  kept_clips [] [] go fields = tt
  kept_clips [] (clip ∷ clips) go fields = absurd cc
  kept_clips (range ∷ kept) [] go fields = absurd cc
  kept_clips (range ∷ kept) (clip ∷ clips) go fields =
      let first : range_fields clip ≡ clip_fields shard range = cc in
      let others : map range_fields clips ≡ map (clip_fields shard) kept = cc in (
        clip_of_range shard range (All-head (λ range. goes_to shard range ≡ true) range kept go) clip first,
        kept_clips kept clips (All-tail (λ range. goes_to shard range ≡ true) range kept go) others,
      )

  pub clips_from_fields : (ranges clips : List Range) → map range_fields clips ≡ clips_of shard ranges → AreClips shard ranges clips
  clips_from_fields ranges clips fields =
      kept_clips (filter (goes_to shard) ranges) clips (filter_passes (goes_to shard) ranges) fields

  pub txn_from_fields : (t clip : Txn) → txn_fields clip ≡ clip_txn shard t → IsTxnClip shard t clip
  txn_from_fields t clip fields = record {
    snapshot = ap (λ (f : TxnFields). f.snapshot) fields;
    marked = ap (λ (f : TxnFields). f.marked) fields;
    reads = clips_from_fields t.reads clip.reads (ap (λ (f : TxnFields). f.reads) fields);
    writes = clips_from_fields t.writes clip.writes (ap (λ (f : TxnFields). f.writes) fields);
  }

  pub txns_from_fields : (txns clips : List Txn) → map txn_fields clips ≡ map (clip_txn shard) txns
      → AllZip (IsTxnClip shard) txns clips
  txns_from_fields [] [] fields = tt
  txns_from_fields [] (clip ∷ clips) fields = absurd cc
  txns_from_fields (t ∷ txns) [] fields = absurd cc
  txns_from_fields (t ∷ txns) (clip ∷ clips) fields =
      let first : txn_fields clip ≡ clip_txn shard t = cc in
      let others : map txn_fields clips ≡ map (clip_txn shard) txns = cc in
      (txn_from_fields t clip first, txns_from_fields txns clips others)

  module _ (proper : IsProper shard) where
    clips_hold : (ranges : List Range) → All RangeHolds (clips_of shard ranges)
    clips_hold ranges =
        All-map RangeHolds (clip_fields shard) (filter (goes_to shard) ranges)
        (All-weaker (λ range. goes_to shard range ≡ true) (λ range. RangeHolds (clip_fields shard range))
        (λ range go. clip_holds shard range go proper) (filter (goes_to shard) ranges) (filter_passes (goes_to shard) ranges))

    -- the clip of a transaction keeps the limits
    pub clip_limits : (t : Txn) → TxnLimits (clip_txn shard t)
    clip_limits t = record {
      snapshot = t.natural;
      few_reads = omega (arith, few_clips t.reads, t.few_reads);
      few_writes = omega (arith, few_clips t.writes, t.few_writes);
      reads = clips_hold t.reads;
      writes = clips_hold t.writes;
    }
