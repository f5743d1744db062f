-- What the resolvers of all shards process, with combined replies, is by shards: so the laws of `serial` speak of it.
use Rattle.std.proofs.Common.{◌≡◌, ℕ, ◌≤◌, true, false, not, ◌&&◌, ◌||◌, cond, List, [], ◌∷◌, ℤ, refl, sym, ap, ap₂, ◌∙◌, subst, All}
use Rattle.std.specs.Prelude.{Option, Some, None, slice_get, IsSomeAnd, filter}
use Rattle.std.specs.List.{AllZip}
use Rattle.std.proofs.lemmas.List.Elements.{All-nil, All-cons, All-head, All-tail}
use Rattle.keys.specs.declared.range.Range.{Range}
use Rattle.keys.specs.Key.{IsBytes, is_before}
use Rattle.keys.proofs.callers.Booleans.{and_left, and_right, and_both, false_unless, not_both_ways}
use Rattle.keys.proofs.callers.KeyOrder.{at_most_before}
use Rattle.keyspace.specs.declared.txn.Txn.{Txn}
use Rattle.keyspace.specs.declared.reply.Verdict.{Verdict}
use Rattle.keyspace.specs.declared.reply.Verdict.TheVariants.{Committed}
use Rattle.keyspace.specs.declared.reply.Entry.{Entry}
use Rattle.keyspace.specs.declared.reply.Reply.{Reply}
use Rattle.keyspace.specs.Processed.{Processed}
use Rattle.keyspace.specs.Chain.{IsChain}
use Rattle.serial.specs.Commits.{holds}
use Rattle.serial.specs.Stores.{in_ranges}
use Rattle.serial.specs.Shards.{Shard, ends_above, has_key, SameInShard, IsTxnClip as IsTxnClipOf, IsBatchClip as IsBatchClipOf, SaysCommitted, AreByShards}
use Rattle.serial.proofs.callers.Reading.{some_at, the_value}
use Rattle.shards.specs.declared.shard_reply.ShardReply.{ShardReply}
use Rattle.shards.specs.Clips.{goes_to, IsClip, AreClips, IsTxnClip, IsBatchClip}
use Rattle.shards.specs.Combined.{rank, OfEntry}
use Rattle.shards.specs.Laws.{AreRepliesTo, AreCombinedBy, AreCombined}
use Rattle.shards.proofs.Leasts.{greatest}

-- a range that holds a key below an end isn't empty
ends_after : (to : Option (List ℕ)) (begin key : List ℕ) → not (is_before key begin) ≡ true → ends_above to key ≡ true
    → ends_above to begin ≡ true
ends_after None begin key most above = refl
ends_after (Some to) begin key most above = at_most_before begin key to most above

module _ (shard : Shard) (key : List ℕ) (bytes : IsBytes key) (has : has_key shard key ≡ true) where
  -- a range that holds a key of the shard goes to the shard
  pub held_goes : (range : Range) → holds range key ≡ true → goes_to shard range ≡ true
  held_goes range held =
      let low = and_left (not (is_before key range.begin)) (is_before key range.end) held in
      let high = and_right (not (is_before key range.begin)) (is_before key range.end) held in
      let from = and_left (not (is_before key shard.from)) (ends_above shard.to key) has in
      let to = and_right (not (is_before key shard.from)) (ends_above shard.to key) has in
      ap (λ b. cond b (is_before shard.from range.end && ends_above shard.to range.begin) (has_key shard range.begin))
      (at_most_before range.begin key range.end low high)
      ∙ and_both (is_before shard.from range.end) (ends_above shard.to range.begin)
      (at_most_before shard.from key range.end from high) (ends_after shard.to range.begin key low to)

  -- the ranges that don't go there hold no key of it
  kept_same : (ranges : List Range) → in_ranges (filter (goes_to shard) ranges) key ≡ in_ranges ranges key
  kept_same [] = refl
  kept_same (range ∷ ranges) =
      elim (goes_to shard range) as (λ b. goes_to shard range ≡ b
      → in_ranges (cond b (range ∷ filter (goes_to shard) ranges) (filter (goes_to shard) ranges)) key
      ≡ (holds range key || in_ranges ranges key)) [
        | true ↦ λ goes. ap (λ b. holds range key || b) (kept_same ranges)
        | false ↦ λ stays.
            kept_same ranges ∙ ap (λ b. b || in_ranges ranges key)
            (sym (false_unless (holds range key) (λ h. not_both_ways (goes_to shard range) (held_goes range h) stays)))
      ] refl

  -- and the clips of the others hold the same keys of it
  zipped_same : (kept clips : List Range) → AllZip (IsClip shard) kept clips → in_ranges clips key ≡ in_ranges kept key
  zipped_same [] [] zipped = refl
  zipped_same [] (clip ∷ clips) zipped = absurd zipped
  zipped_same (range ∷ kept) [] zipped = absurd zipped
  zipped_same (range ∷ kept) (clip ∷ clips) zipped =
      ap₂ ◌||◌ (zipped.0.keys key bytes ∙ ap (λ b. b && holds range key) has) (zipped_same kept clips zipped.1)

-- so clips hold the keys of the shard that the ranges hold
pub same_in_shard : (shard : Shard) (ranges clips : List Range) → AreClips shard ranges clips → SameInShard shard ranges clips
same_in_shard shard ranges clips are key bytes has =
    zipped_same shard key bytes has (filter (goes_to shard) ranges) clips are ∙ kept_same shard key bytes has ranges

-- what holds of pairs that another thing holds of
pub zip_weaker : {A B : Type 0} (P Q : A → B → Type 0) → ((x : A) (y : B) → P x y → Q x y) → (xs : List A) (ys : List B)
    → AllZip P xs ys → AllZip Q xs ys
zip_weaker P Q f [] [] zipped = tt
zip_weaker P Q f [] (y ∷ ys) zipped = absurd zipped
zip_weaker P Q f (x ∷ xs) [] zipped = absurd zipped
zip_weaker P Q f (x ∷ xs) (y ∷ ys) zipped = (f x y zipped.0, zip_weaker P Q f xs ys zipped.1)

txn_clip : (shard : Shard) (t clip : Txn) → IsTxnClip shard t clip → IsTxnClipOf shard t clip
txn_clip shard t clip is = record {
  snapshot = is.snapshot;
  reads = same_in_shard shard t.reads clip.reads is.reads;
  writes = same_in_shard shard t.writes clip.writes is.writes;
}

pub batch_clip : (shard : Shard) (p c : Processed) → IsBatchClip shard p.batch c.batch → IsBatchClipOf shard p.batch c.batch
batch_clip shard p c is = record {
  version = is.version;
  txns = zip_weaker (IsTxnClip shard) (IsTxnClipOf shard) (txn_clip shard) p.batch.txns c.batch.txns is.txns;
}

-- a shard whose reply has no lesser verdict than committed has committed
said_by : (i j : ℕ) (own : List Processed) (s : ShardReply) → IsSomeAnd (slice_get own i) (λ c. s.reply ≡ c.reply)
    → OfEntry j (λ e. rank Committed ≤ rank e.verdict) s → SaysCommitted i j own
said_by i j own s replied least =
    let c = the_value (λ (c : Processed). s.reply ≡ c.reply) (slice_get own i) replied in
    let e = the_value (λ (e : Entry). rank Committed ≤ rank e.verdict) (slice_get s.reply.entries j) least in
    let entry : slice_get c.0.reply.entries j ≡ Some e.0 = ap (λ (r : Reply). slice_get r.entries j) (sym c.2) ∙ e.1 in
    some_at (λ (p : Processed). IsSomeAnd (slice_get p.reply.entries j) (λ e. e.verdict ≡ Committed)) (slice_get own i) c.0 c.1
    (some_at (λ (e : Entry). e.verdict ≡ Committed) (slice_get c.0.reply.entries j) e.0 entry (greatest e.0.verdict e.2))

all_said : (i j : ℕ) (each : List (List Processed)) (replies : List ShardReply) → AreRepliesTo i each replies
    → All (OfEntry j (λ e. rank Committed ≤ rank e.verdict)) replies → All (SaysCommitted i j) each
all_said i j [] [] zipped all = All-nil (SaysCommitted i j)
all_said i j [] (s ∷ replies) zipped all = absurd zipped
all_said i j (own ∷ each) [] zipped all = absurd zipped
all_said i j (own ∷ each) (s ∷ replies) zipped all =
    let P = OfEntry j (λ e. rank Committed ≤ rank e.verdict) in
    All-cons (SaysCommitted i j) own each (said_by i j own s zipped.0 (All-head P s replies all))
    (all_said i j each replies zipped.1 (All-tail P s replies all))

-- the combined replies commit only what every shard commits
pub all_commit : (IsOfShard : List Processed → Type 0) (points : List (List ℕ)) (each : List (List Processed)) (ps : List Processed)
    → AreCombinedBy IsOfShard points each ps → (i j : ℕ) → SaysCommitted i j ps → All (SaysCommitted i j) each
all_commit IsOfShard points each ps are i j says =
    let p = the_value (λ (p : Processed). IsSomeAnd (slice_get p.reply.entries j) (λ e. e.verdict ≡ Committed)) (slice_get ps i) says in
    let e = the_value (λ (e : Entry). e.verdict ≡ Committed) (slice_get p.0.reply.entries j) p.2 in
    let found = are.replies i p.0 p.1 in
    let least = (found.2.entries j e.0 e.1).verdict.least in
    all_said i j each found.0 found.1
    (subst (λ (verdict : Verdict). All (OfEntry j (λ own. rank verdict ≤ rank own.verdict)) found.0) e.2 least)

-- the clips of batches are clips as the laws of `serial` have them
pub clips_of : (shard : Shard) (ps own : List Processed) → AllZip (λ p c. IsBatchClip shard p.batch c.batch) ps own
    → AllZip (λ p c. IsBatchClipOf shard p.batch c.batch) ps own
clips_of shard ps own clips =
    zip_weaker (λ p c. IsBatchClip shard p.batch c.batch) (λ p c. IsBatchClipOf shard p.batch c.batch) (batch_clip shard) ps own clips

-- so the combined replies are by shards
pub are_by_shards : (window : ℤ) (points : List (List ℕ)) (each : List (List Processed)) (ps : List Processed)
    → AreCombined window points each ps → AreByShards window points each ps
are_by_shards window points each ps are = record {
  rising = are.rising;
  one_each = are.one_each;
  chains = are.chains;
  clips = λ m shard own here there. clips_of shard ps own (are.clips m shard own here there);
  verdicts = all_commit (IsChain window) points each ps are;
}
