-- Of the batches that all shards have processed, the reads of what all commit are current, and versions rise: also if each shard has
-- processed others between them.
use Rattle.std.proofs.Common.{◌≡◌, ℕ, ◌<◌, Bool, true, false, List, [], length, take, get_or, ℤ, refl, sym, ◌∙◌, subst}
use Rattle.std.specs.Prelude.{◌≤ℤ◌, Option, slice_get, IsSomeAnd, Contains}
use Rattle.std.specs.List.{AllZip}
use Rattle.std.proofs.lemmas.List.Elements.{All-get_or}
use Rattle.std.proofs.lemmas.List.Folds.{Any-from_list_any, list_any-from_Any}
use Rattle.std.proofs.lemmas.Option.{slice_get_within, slice_get-get_or}
use Rattle.keys.specs.declared.range.Range.{Range}
use Rattle.keys.specs.Key.{IsBytes}
use Rattle.keys.proofs.callers.Booleans.{false_unless, not_both_ways}
use Rattle.keyspace.specs.declared.txn.Txn.{Txn}
use Rattle.keyspace.specs.Processed.{Processed}
use Rattle.keyspace.specs.Writes.{writes, earlier}
use Rattle.serial.specs.Commits.{IsCommitted, before, holds, writes_holding, up_to, Current}
use Rattle.serial.specs.Serial.{IsSerializable}
use Rattle.serial.specs.Stores.{in_ranges}
use Rattle.serial.specs.Shards.{Shard, has_key, shards, IsTxnClip, IsBatchClip, SaysCommitted}
use Rattle.serial.proofs.Clipping.{CommittedAt, partner, written_by_clips, clips_above}
use Rattle.serial.proofs.Holding.{written_above, current_from_tests, low_from_current, none_from_current}
use Rattle.serial.proofs.Reading.{chain_current}
use Rattle.serial.proofs.Versions.{VersionsRise, version_up_to}
use Rattle.serial.proofs.EntireChain.{serializable}
use Rattle.serial.proofs.callers.Reading.{none_before_empty, some_shard, some_at}
use Rattle.shards.specs.Laws.{IsAmong, IsOfChain, AreCombinedAmongOthers}
use Rattle.shards.proofs.Among.{place_among, rises_among, above_among}
use Rattle.shards.proofs.Together.{all_commit, clips_of}

-- a test is false if another one, which follows from it, is false
false_if : (a b : Bool) → (a ≡ true → b ≡ true) → b ≡ false → a ≡ false
false_if a b follows h = false_unless a (λ k. not_both_ways b (follows k) h)

module _ (shard : Shard) (ps own chain : List Processed)
    (clips : AllZip (λ (p c : Processed). IsBatchClip shard p.batch c.batch) ps own)
    (says : (k l : ℕ) → SaysCommitted k l ps → SaysCommitted k l own) (among : IsAmong own chain) (current : Current chain) where
  -- if the reads of a shard's chain are current, so are the reads of the keys that the shard has
  current_in_shard : (i j : ℕ) (p : Processed) (t : Txn) → IsCommitted ps i j p t
      → (range : Range) → Contains t.reads range → (key : List ℕ) → IsBytes key → holds range key ≡ true
      → has_key shard key ≡ true → writes_holding key (before ps i p j) ≡ writes_holding key (up_to t.snapshot (writes (take i ps)))
  current_in_shard i j p t c range read key bytes held has =
      let batch = partner (λ (p c : Processed). IsBatchClip shard p.batch c.batch) ps own clips i p c.batch in
      let q = batch.0 in
      let place = place_among own chain among i q batch.1 in
      let txn = partner (IsTxnClip shard) p.batch.txns q.batch.txns batch.2.txns j t c.txn in
      let u = txn.0 in
      let reads_key = list_any-from_Any (λ range. holds range key) t.reads (read.0, range, read.1, read.2, held) in
      let clip = Any-from_list_any (λ range. holds range key) u.reads (txn.2.reads key bytes has ∙ reads_key) in
      let entries_say = λ (l : ℕ) (s : CommittedAt l p.reply.entries).
      subst (λ (o : Option Processed). IsSomeAnd o (λ (p : Processed). CommittedAt l p.reply.entries)) batch.1
      (says i l (some_at (λ (p : Processed). CommittedAt l p.reply.entries) (slice_get ps i) p c.batch s)) in
      let committed_there : IsCommitted chain place.0 j q u = record {
        batch = place.1;
        txn = txn.1;
        verdict = entries_say j c.verdict;
      } in
      let own_writes = writes (take i own) in
      let all_writes = writes (take place.0 chain) in
      let own_earlier = earlier q.batch q.reply j in
      let known = current place.0 j q u committed_there clip.1 (clip.0, clip.2, clip.3) key bytes clip.4 in
      let low = subst (λ snapshot. written_above snapshot key all_writes ≡ false) txn.2.snapshot
      (low_from_current u.snapshot q.batch.version key all_writes own_earlier known) in
      let own_low = false_if (written_above t.snapshot key own_writes) (written_above t.snapshot key all_writes)
      (above_among t.snapshot key (take i own) (take place.0 chain) place.2) low in
      let none = none_from_current u.snapshot q.batch.version key all_writes own_earlier known in
      current_from_tests t.snapshot p.batch.version key (writes (take i ps)) (earlier p.batch p.reply j)
      (false_if (written_above t.snapshot key (writes (take i ps))) (written_above t.snapshot key own_writes)
      (clips_above shard key bytes has t.snapshot i ps own clips says) own_low)
      (false_if (in_ranges (earlier p.batch p.reply j) key) (in_ranges own_earlier key)
      (written_by_clips shard key bytes has p.batch.txns q.batch.txns p.reply.entries q.reply.entries j batch.2.txns
      entries_say) none)

  -- and versions rise as those of the chain do
  rises_with : VersionsRise chain → VersionsRise ps
  rises_with rise i k p q here there h =
      let R = λ (p c : Processed). IsBatchClip shard p.batch c.batch in
      let one = partner R ps own clips i p here in
      let other = partner R ps own clips k q there in
      subst (λ v. p.batch.version ≤ℤ v) other.2.version (subst (λ v. v ≤ℤ other.0.batch.version) one.2.version
      (rises_among own chain among rise i k one.0 other.0 one.1 other.1 h))

-- if each shard's list is of a chain, the reads of what all shards commit are current
pub among_current : (window : ℤ) (points : List (List ℕ)) (each : List (List Processed)) (ps : List Processed)
    → AreCombinedAmongOthers window points each ps → Current ps
among_current window points each ps are i j p t c range read key bytes held =
    let place = some_shard points [] key (none_before_empty key) in
    let m = place.0 in
    let inside : m < length each = subst (λ n. m < n) (sym are.one_each)
    (slice_get_within (shards points) m place.1 place.2) in
    let own = get_or each m [] in
    let found = All-get_or (IsOfChain window) each m [] inside are.chains in
    let clips = clips_of place.1 ps own (are.clips m place.1 own place.2 (slice_get-get_or each m [] inside)) in
    let says = λ (k l : ℕ) (s : SaysCommitted k l ps).
    All-get_or (SaysCommitted k l) each m [] inside (all_commit (IsOfChain window) points each ps are k l s) in
    current_in_shard place.1 ps own found.0 clips says found.2 (chain_current window found.0 found.1) i j p t c range read key bytes
    held place.3

-- and the versions of the batches rise
pub among_rise : (window : ℤ) (points : List (List ℕ)) (each : List (List Processed)) (ps : List Processed)
    → AreCombinedAmongOthers window points each ps → VersionsRise ps
among_rise window points each ps are =
    let place = some_shard points [] [] refl in
    let m = place.0 in
    let inside : m < length each = subst (λ n. m < n) (sym are.one_each)
    (slice_get_within (shards points) m place.1 place.2) in
    let own = get_or each m [] in
    let found = All-get_or (IsOfChain window) each m [] inside are.chains in
    let clips = clips_of place.1 ps own (are.clips m place.1 own place.2 (slice_get-get_or each m [] inside)) in
    let says = λ (k l : ℕ) (s : SaysCommitted k l ps).
    All-get_or (SaysCommitted k l) each m [] inside (all_commit (IsOfChain window) points each ps are k l s) in
    rises_with place.1 ps own found.0 clips says found.2 (chain_current window found.0 found.1)
    (version_up_to window found.0 found.1)

-- so what all shards commit is serializable
pub among_serializable : (window : ℤ) (points : List (List ℕ)) (each : List (List Processed)) (ps : List Processed)
    → AreCombinedAmongOthers window points each ps → IsSerializable ps
among_serializable window points each ps are =
    serializable ps (among_rise window points each ps are) (among_current window points each ps are)
