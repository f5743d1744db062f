-- The worked examples of several resolvers.
use Rattle.std.proofs.Common.{◌≡◌, ℕ, zero, suc, true, false, not, ◌&&◌, ◌||◌, List, [], ◌∷◌, refl, sym, ◌∙◌, ap, subst, arith}
use Rattle.std.specs.Prelude.{Some, IsTrue, IsSomeAnd, slice_get, All}
use Rattle.std.specs.List.{AllZip}
use Rattle.std.proofs.Math.Bool.{and-false}
use Rattle.keys.specs.declared.range.Range.{Range}
use Rattle.keyspace.specs.declared.txn.Txn.{Txn}
use Rattle.keyspace.specs.declared.TheConstants.{WINDOW}
use Rattle.keyspace.specs.declared.reply.Verdict.{Verdict}
use Rattle.keyspace.specs.declared.reply.Verdict.TheVariants.{Conflict, Committed}
use Rattle.keyspace.specs.declared.reply.Entry.{Entry}
use Rattle.keys.specs.Key.{IsBytes, is_before, IsBefore}
use Rattle.keys.proofs.callers.Booleans.{and_left, and_right, and_both, false_unless}
use Rattle.keys.proofs.callers.KeyOrder.{before_trans, before_at_most, before_at_most_same, not_both}
use Rattle.keyspace.specs.Processed.{Processed}
use Rattle.keyspace.specs.Chain.{IsChain}
use Rattle.keyspace.specs.Laws.{RunsAreChains}
use Rattle.keyspace.specs.Run.{Step, run}
use Rattle.keyspace.specs.Rows.{Limits, letter, ab, bc, cd, xy, nothing}
use Rattle.serial.specs.Commits.{holds}
use Rattle.serial.specs.Shards.{Shard, has_key, shards, SameInShard, IsTxnClip, IsBatchClip, SaysCommitted, AreByShards}
use Rattle.serial.specs.Stores.{in_ranges}
use Rattle.serial.specs.RowLists.{with_verdicts}
use Rattle.serial.specs.ShardRows.{at_m, below_m, from_m, entire, entire_below, entire_above, fewer_below, mn, ShardRows}
use Rattle.serial.proofs.ByShards.{none_before_empty}

-- what holds of two holds of all of them
all_two : {X : Type 0} (P : X → Type 0) (x y : X) → P x → P y → All P (x ∷ y ∷ [])
all_two P x y px py zero d below = px
all_two P x y px py (suc zero) d below = py
all_two P x y px py (suc (suc k)) d below = absurd (omega (arith, below))

-- nothing was committed without an entry
none_committed : (j : ℕ) → IsSomeAnd (slice_get [] j) (λ (e : Entry). e.verdict ≡ Committed) → ⊥
none_committed j h = elim h [ ]

-- a conflict is no commit
not_committed : Conflict ≡ Committed → ⊥
not_committed h = cc

-- the clip of a range holds the keys of the range that lie in the shard
abbrev IsClip : Shard → Range → Range → Type 0
IsClip shard range clip =
    (key : List ℕ) → IsBytes key → holds clip key ≡ (has_key shard key && holds range key)

-- a transaction without ranges reads nothing in any shard
no_ranges : (shard : Shard) → SameInShard shard [] []
no_ranges shard key bytes has = refl

-- one range, and its clip
one_range : (shard : Shard) (range clip : Range) → IsClip shard range clip → SameInShard shard (range ∷ []) (clip ∷ [])
one_range shard range clip is_clip key bytes has =
    ap (λ b. b || false) (is_clip key bytes ∙ ap (λ b. b && holds range key) has)

-- a range that has an empty clip may be omitted, before others
omitted : (shard : Shard) (range : Range) (ranges : List Range)
    → ((key : List ℕ) → IsTrue (holds range key) → IsTrue (has_key shard key) → ⊥)
    → SameInShard shard (range ∷ ranges) ranges
omitted shard range ranges apart key bytes has =
    ap (λ b. b || in_ranges ranges key) (sym (false_unless (holds range key) (λ h. apart key h has)))

-- a range whose keys all lie in the shard is its own clip
inside : (shard : Shard) (range : Range) → ((key : List ℕ) → IsTrue (holds range key) → IsTrue (has_key shard key))
    → IsClip shard range range
inside shard range within key bytes =
    elim (holds range key) as (λ b. (b ≡ true → has_key shard key ≡ true) → b ≡ (has_key shard key && b)) [
      | true ↦ λ h. rw (h refl) refl
      | false ↦ λ h. sym (and-false (has_key shard key))
    ] (within key)

-- a range of which no key lies in the shard has the empty range as its clip
outside : (shard : Shard) (range clip : Range) → ((key : List ℕ) → holds clip key ≡ false)
    → ((key : List ℕ) → IsTrue (holds range key) → IsTrue (has_key shard key) → ⊥) → IsClip shard range clip
outside shard range clip empty apart key bytes =
    empty key
    ∙ sym (false_unless (has_key shard key && holds range key) (λ h.
    apart key (and_right (has_key shard key) (holds range key) h) (and_left (has_key shard key) (holds range key) h)))

-- a key that comes before another one that comes before m lies below m
has_below : (end key : List ℕ) → IsBefore key end → IsBefore end (letter 109) → IsTrue (has_key below_m key)
has_below end key h k =
    and_both (not (is_before key [])) (is_before key (letter 109)) (ap not (none_before_empty key))
    (before_trans key end (letter 109) h k)

-- and not from m on
not_above : (end key : List ℕ) → IsBefore key end → IsBefore end (letter 109) → IsTrue (has_key from_m key) → ⊥
not_above end key h k has =
    not_both key (letter 109) (before_trans key end (letter 109) h k)
    (and_left (not (is_before key (letter 109))) true has)

-- the batch is the clip of the other one
abbrev IsClipOf : Shard → Processed → Processed → Type 0
IsClipOf shard p c = IsBatchClip shard p.batch c.batch

module _ (limits : Limits) where
  -- the range [m, m) holds no key
  holds_none : (key : List ℕ) → holds (nothing limits) key ≡ false
  holds_none key =
      elim (is_before key (letter 109)) as (λ b. (not b && b) ≡ false) [ true ↦ refl | false ↦ refl ]

  module _ (range : Range) where
    -- a range that ends before m lies below it
    low_below : IsBefore range.end (letter 109) → IsClip below_m range range
    low_below h =
        inside below_m range (λ key held. has_below range.end key (and_right (not (is_before key range.begin))
        (is_before key range.end) held) h)

    -- and has nothing from m on
    low_above : IsBefore range.end (letter 109) → IsClip from_m range (nothing limits)
    low_above h =
        outside from_m range (nothing limits) holds_none (λ key held. not_above range.end key
        (and_right (not (is_before key range.begin)) (is_before key range.end) held) h)

    -- a range that begins after m lies from m on
    high_above : IsBefore (letter 109) range.begin → IsClip from_m range range
    high_above h =
        inside from_m range (λ key held.
        and_both (not (is_before key (letter 109))) true (before_at_most_same (letter 109) key (before_at_most
        (letter 109) range.begin key h (and_left (not (is_before key range.begin)) (is_before key range.end) held)))
        refl)

    -- and has no key below it
    high_apart : IsBefore (letter 109) range.begin → (key : List ℕ) → IsTrue (holds range key) → IsTrue (has_key below_m key) → ⊥
    high_apart h key held has =
        not_both key (letter 109) (and_right (not (is_before key [])) (is_before key (letter 109)) has)
        (before_at_most_same (letter 109) key (before_at_most (letter 109) range.begin key h
        (and_left (not (is_before key range.begin)) (is_before key range.end) held)))

    -- so nothing there
    high_below : IsBefore (letter 109) range.begin → IsClip below_m range (nothing limits)
    high_below h = outside below_m range (nothing limits) holds_none (high_apart h)

  -- the resolver below m processes the batches clipped to its shard
  below_clips : AllZip (IsClipOf below_m) (run WINDOW (entire limits)).processed (run WINDOW (entire_below limits)).processed
  below_clips =
      let xy_clip = one_range below_m (xy limits) (nothing limits) (high_below (xy limits) refl) in
      let ab_clip = one_range below_m (ab limits) (ab limits) (low_below (ab limits) refl) in
      let bc_clip = one_range below_m (bc limits) (bc limits) (low_below (bc limits) refl) in
      let cd_clip = one_range below_m (cd limits) (cd limits) (low_below (cd limits) refl) in (
        record { version = refl; txns = tt },
        (
          record { version = refl; txns = (record { snapshot = refl; reads = no_ranges below_m; writes = xy_clip }, tt) },
          (
            record { version = refl; txns = (record { snapshot = refl; reads = xy_clip; writes = cd_clip }, tt) },
            (
              record { version = refl; txns = (record { snapshot = refl; reads = cd_clip; writes = bc_clip }, tt) },
              (record { version = refl; txns = (record { snapshot = refl; reads = bc_clip; writes = ab_clip }, tt) }, tt),
            ),
          ),
        ),
      )

  -- or those without the ranges that miss its shard
  fewer_clips : AllZip (IsClipOf below_m) (run WINDOW (entire limits)).processed (run WINDOW (fewer_below limits)).processed
  fewer_clips =
      let no_xy = omitted below_m (xy limits) [] (high_apart (xy limits) refl) in
      let ab_clip = one_range below_m (ab limits) (ab limits) (low_below (ab limits) refl) in
      let bc_clip = one_range below_m (bc limits) (bc limits) (low_below (bc limits) refl) in
      let cd_clip = one_range below_m (cd limits) (cd limits) (low_below (cd limits) refl) in (
        record { version = refl; txns = tt },
        (
          record { version = refl; txns = (record { snapshot = refl; reads = no_ranges below_m; writes = no_xy }, tt) },
          (
            record { version = refl; txns = (record { snapshot = refl; reads = no_xy; writes = cd_clip }, tt) },
            (
              record { version = refl; txns = (record { snapshot = refl; reads = cd_clip; writes = bc_clip }, tt) },
              (record { version = refl; txns = (record { snapshot = refl; reads = bc_clip; writes = ab_clip }, tt) }, tt),
            ),
          ),
        ),
      )

  -- and the one from m on those of its shard
  above_clips : AllZip (IsClipOf from_m) (run WINDOW (entire limits)).processed (run WINDOW (entire_above limits)).processed
  above_clips =
      let xy_clip = one_range from_m (xy limits) (xy limits) (high_above (xy limits) refl) in
      let ab_clip = one_range from_m (ab limits) (nothing limits) (low_above (ab limits) refl) in
      let bc_clip = one_range from_m (bc limits) (nothing limits) (low_above (bc limits) refl) in
      let cd_clip = one_range from_m (cd limits) (nothing limits) (low_above (cd limits) refl) in (
        record { version = refl; txns = tt },
        (
          record { version = refl; txns = (record { snapshot = refl; reads = no_ranges from_m; writes = xy_clip }, tt) },
          (
            record { version = refl; txns = (record { snapshot = refl; reads = xy_clip; writes = cd_clip }, tt) },
            (
              record { version = refl; txns = (record { snapshot = refl; reads = cd_clip; writes = bc_clip }, tt) },
              (record { version = refl; txns = (record { snapshot = refl; reads = bc_clip; writes = ab_clip }, tt) }, tt),
            ),
          ),
        ),
      )

  -- what is sent uncut is its own clip
  uncut_txns : (shard : Shard) (ts : List Txn) → AllZip (IsTxnClip shard) ts ts
  uncut_txns shard [] = tt
  uncut_txns shard (t ∷ ts) = (
    record { snapshot = refl; reads = λ key bytes has. refl; writes = λ key bytes has. refl },
    uncut_txns shard ts,
  )

  uncut : (shard : Shard) (ps : List Processed) → AllZip (IsClipOf shard) ps ps
  uncut shard [] = tt
  uncut shard (p ∷ ps) = (record { version = refl; txns = uncut_txns shard p.batch.txns }, uncut shard ps)

  -- clips are of batches, whatever verdicts the clients received
  clips_stay : (shard : Shard) (verdicts : List Verdict) (ps own : List Processed) → AllZip (IsClipOf shard) ps own
      → AllZip (IsClipOf shard) (with_verdicts verdicts ps) own
  clips_stay shard [] ps own zipped = zipped
  clips_stay shard (verdict ∷ verdicts) [] own zipped = zipped
  clips_stay shard (verdict ∷ verdicts) (p ∷ ps) [] zipped = absurd zipped
  clips_stay shard (verdict ∷ verdicts) (p ∷ ps) (c ∷ own) zipped =
      (zipped.0, clips_stay shard verdicts ps own zipped.1)

  -- so each of two shards has the clips of the batches
  clips_of_two : (ps low high : List Processed) → AllZip (IsClipOf below_m) ps low → AllZip (IsClipOf from_m) ps high
      → (m : ℕ) (shard : Shard) (own : List Processed) → slice_get (shards at_m) m ≡ Some shard
      → slice_get (low ∷ high ∷ []) m ≡ Some own → AllZip (IsClipOf shard) ps own
  clips_of_two ps low high is_low is_high zero shard own here there =
      let is_below : below_m ≡ shard = cc in
      let is_own : low ≡ own = cc in
      subst (λ s. AllZip (IsClipOf s) ps own) is_below (subst (λ cs. AllZip (IsClipOf below_m) ps cs) is_own is_low)
  clips_of_two ps low high is_low is_high (suc zero) shard own here there =
      let is_above : from_m ≡ shard = cc in
      let is_own : high ≡ own = cc in
      subst (λ s. AllZip (IsClipOf s) ps own) is_above (subst (λ cs. AllZip (IsClipOf from_m) ps cs) is_own is_high)
  clips_of_two ps low high is_low is_high (suc (suc m)) shard own here there = absurd (let never : ⊥ = cc in never)

  module _ (low high : List Processed)
      (first : SaysCommitted 1 0 low × SaysCommitted 1 0 high) (fourth : SaysCommitted 4 0 low × SaysCommitted 4 0 high) where
    -- both shards have committed the first transaction and the last one, so the proxy may commit or reject the last
    both_say : (last : Verdict) (i j : ℕ)
        → SaysCommitted i j (with_verdicts (Committed ∷ Committed ∷ Conflict ∷ Conflict ∷ last ∷ []) (run WINDOW (entire limits)).processed)
        → All (SaysCommitted i j) (low ∷ high ∷ [])
    both_say last zero j h = absurd (none_committed j h)
    both_say last (suc zero) zero h = all_two (SaysCommitted 1 0) _ _ first.0 first.1
    both_say last (suc zero) (suc j) h = absurd (none_committed j h)
    both_say last (suc (suc zero)) zero h = absurd (not_committed h)
    both_say last (suc (suc zero)) (suc j) h = absurd (none_committed j h)
    both_say last (suc (suc (suc zero))) zero h = absurd (not_committed h)
    both_say last (suc (suc (suc zero))) (suc j) h = absurd (none_committed j h)
    both_say last (suc (suc (suc (suc zero)))) zero h = all_two (SaysCommitted 4 0) _ _ fourth.0 fourth.1
    both_say last (suc (suc (suc (suc zero)))) (suc j) h = absurd (none_committed j h)
    both_say last (suc (suc (suc (suc (suc i))))) j h = elim h [ ]

  module _ (are_chains : RunsAreChains) where
    -- two shards that have processed clips of the batches, and said of each what the client received
    by_two : (low high : List Step) (ps : List Processed) → AllZip (IsClipOf below_m) ps (run WINDOW low).processed
        → AllZip (IsClipOf from_m) ps (run WINDOW high).processed
        → ((i j : ℕ) → SaysCommitted i j ps → All (SaysCommitted i j) ((run WINDOW low).processed ∷ (run WINDOW high).processed ∷ []))
        → AreByShards WINDOW at_m ((run WINDOW low).processed ∷ (run WINDOW high).processed ∷ []) ps
    by_two low high ps is_low is_high says = record {
      rising = (refl, tt);
      one_each = refl;
      chains = all_two (IsChain WINDOW) _ _ (are_chains WINDOW low) (are_chains WINDOW high);
      clips = clips_of_two ps (run WINDOW low).processed (run WINDOW high).processed is_low is_high;
      verdicts = says;
    }

    -- by verdicts on the four
    by_shards : (low : List Step) (last : Verdict)
        → AllZip (IsClipOf below_m) (run WINDOW (entire limits)).processed (run WINDOW low).processed
        → SaysCommitted 1 0 (run WINDOW low).processed → SaysCommitted 4 0 (run WINDOW low).processed
        → AreByShards WINDOW at_m ((run WINDOW low).processed ∷ (run WINDOW (entire_above limits)).processed ∷ [])
        (with_verdicts (Committed ∷ Committed ∷ Conflict ∷ Conflict ∷ last ∷ []) (run WINDOW (entire limits)).processed)
    by_shards low last is_low first fourth =
        let verdicts = Committed ∷ Committed ∷ Conflict ∷ Conflict ∷ last ∷ [] in
        by_two low (entire_above limits) (with_verdicts verdicts (run WINDOW (entire limits)).processed)
        (clips_stay below_m verdicts (run WINDOW (entire limits)).processed (run WINDOW low).processed is_low)
        (clips_stay from_m verdicts (run WINDOW (entire limits)).processed (run WINDOW (entire_above limits)).processed above_clips)
        (both_say (run WINDOW low).processed (run WINDOW (entire_above limits)).processed (first, refl) (fourth, refl) last)

    a_byte : (range : Range) → IsBytes range.begin
    a_byte range = range.begin_is_key.bytes

    pub rows : ShardRows limits
    rows = record {
      shards_clip = refl;
      shards_reject = refl;
      shards_commit = refl;
      shards_together = by_shards (entire_below limits) Committed below_clips refl refl;
      proxy_rejects = by_shards (entire_below limits) Conflict below_clips refl refl;
      proxy_rejects_committed = (all_two (SaysCommitted 4 0) _ _ refl refl, not_committed);
      clip_omits = record {
        snapshot = refl;
        reads = omitted below_m (xy limits) (cd limits ∷ []) (high_apart (xy limits) refl);
        writes = λ key bytes has. refl;
      };
      clip_uncut = record { snapshot = refl; reads = λ key bytes has. refl; writes = λ key bytes has. refl };
      clip_keeps_ranges = λ h. let no = h.reads (letter 99) (a_byte (cd limits)) refl in cc;
      clip_keeps_split_point = λ h. let no = h.reads (letter 109) (a_byte (mn limits)) refl in cc;
      clip_keeps_snapshot = λ h. let no = h.snapshot in cc;
      omitting_together = by_shards (fewer_below limits) Committed fewer_clips refl refl;
      uncut_together = by_two (entire limits) (entire limits) (run WINDOW (entire limits)).processed
          (uncut below_m (run WINDOW (entire limits)).processed) (uncut from_m (run WINDOW (entire limits)).processed)
          (λ i j says. all_two (SaysCommitted i j) _ _ says says);
    }
