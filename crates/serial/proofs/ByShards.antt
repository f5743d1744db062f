-- If each shard of the keys has its own resolver, reads are current.
use Rattle.std.proofs.Common.{
  ◌≡◌,
  ℕ,
  suc,
  ◌<◌,
  Bool,
  true,
  false,
  not,
  List,
  [],
  ◌∷◌,
  length,
  take,
  get_or,
  ℤ,
  refl,
  sym,
  ◌∙◌,
  ap,
  subst,
  inl,
  inr,
}
use Rattle.std.specs.Prelude.{◌≤ℤ◌, Option, Some, slice_get, IsSomeAnd, Contains}
use Rattle.std.specs.List.{AllZip}
use Rattle.std.proofs.lemmas.List.Elements.{All-get_or}
use Rattle.std.proofs.lemmas.List.Folds.{Any-from_list_any, list_any-from_Any}
use Rattle.std.proofs.lemmas.Option.{slice_get_within, slice_get-get_or, get_or_from_slice_get}
use Rattle.keys.specs.declared.range.Range.{Range}
use Rattle.keyspace.specs.declared.txn.Txn.{Txn}
use Rattle.keys.specs.Key.{IsBytes, is_before}
use Rattle.keyspace.specs.Processed.{Processed}
use Rattle.keyspace.specs.Writes.{writes, earlier}
use Rattle.keyspace.specs.Chain.{IsChain}
use Rattle.keys.proofs.callers.Booleans.{and_both, false_unless, true_or_false, not_both_ways}
use Rattle.serial.specs.Commits.{IsCommitted, before, holds, writes_holding, up_to, Current}
use Rattle.serial.specs.Stores.{in_ranges}
use Rattle.serial.specs.Shards.{
  Shard,
  has_key,
  shards_from,
  shards,
  IsTxnClip,
  IsBatchClip,
  SaysCommitted,
  AreByShards,
}
use Rattle.serial.proofs.Holding.{written_above, current_from_tests, low_from_current, none_from_current}
use Rattle.serial.proofs.Reading.{some_at, chain_current}
use Rattle.serial.proofs.Versions.{VersionsRise, version_up_to}
use Rattle.serial.proofs.Clipping.{CommittedAt, partner, written_by_clips, clips_above}

-- the element at an index of a list is an element of it
pub contains_at : {X : Type 0} (xs : List X) (i : ℕ) (x : X) → slice_get xs i ≡ Some x → Contains xs x
contains_at xs i x at = (i, slice_get_within xs i x at, get_or_from_slice_get xs i x x at)

-- no key comes before the empty one
pub none_before_empty : (key : List ℕ) → is_before key [] ≡ false
none_before_empty [] = refl
none_before_empty (byte ∷ key) = refl

-- a key that isn't before the first of the shards lies in one of them
pub some_shard : (points : List (List ℕ)) (from key : List ℕ) → is_before key from ≡ false
    → (m : ℕ) × (shard : Shard) × (slice_get (shards_from from points) m ≡ Some shard) × (has_key shard key ≡ true)
some_shard [] from key h =
    (0, _, refl, and_both (not (is_before key from)) true (ap not h) refl)
some_shard (point ∷ points) from key h =
    elim (true_or_false (is_before key point)) [
      | inl e ↦ (0, _, refl, and_both (not (is_before key from)) (is_before key point) (ap not h) e)
      | inr e ↦ let more = some_shard points point key e in (suc more.0, more.1, more.2, more.3)
    ]

-- a test is false if another one, which follows from it, is false
false_if : (a b : Bool) → (a ≡ true → b ≡ true) → b ≡ false → a ≡ false
false_if a b follows h = false_unless a (λ k. not_both_ways b (follows k) h)

module _ (shard : Shard) (ps own : List Processed)
    (clips : AllZip (λ (p c : Processed). IsBatchClip shard p.batch c.batch) ps own)
    (says : (k l : ℕ) → SaysCommitted k l ps → SaysCommitted k l own) (current : Current own) where
  -- if the reads of a shard's own list are current, so are the reads of the keys that the shard has
  current_in_shard : (i j : ℕ) (p : Processed) (t : Txn) → IsCommitted ps i j p t
      → (range : Range) → Contains t.reads range → (key : List ℕ) → IsBytes key → holds range key ≡ true
      → has_key shard key ≡ true → writes_holding key (before ps i p j) ≡ writes_holding key (up_to t.snapshot (writes (take i ps)))
  current_in_shard i j p t c range read key bytes held has =
      let batch = partner (λ (p c : Processed). IsBatchClip shard p.batch c.batch) ps own clips i p c.batch in
      let q = batch.0 in
      let txn = partner (IsTxnClip shard) p.batch.txns q.batch.txns batch.2.txns j t c.txn in
      let u = txn.0 in
      let reads_key = list_any-from_Any (λ range. holds range key) t.reads (read.0, range, read.1, read.2, held) in
      let clip = Any-from_list_any (λ range. holds range key) u.reads (txn.2.reads key bytes has ∙ reads_key) in
      let entries_say = λ (l : ℕ) (s : CommittedAt l p.reply.entries).
      subst (λ (o : Option Processed). IsSomeAnd o (λ (p : Processed). CommittedAt l p.reply.entries)) batch.1
      (says i l (some_at (λ (p : Processed). CommittedAt l p.reply.entries) (slice_get ps i) p c.batch s)) in
      let committed_there : IsCommitted own i j q u = record {
        batch = batch.1;
        txn = txn.1;
        verdict = entries_say j c.verdict;
      } in
      let own_writes = writes (take i own) in
      let own_earlier = earlier q.batch q.reply j in
      let known = current i j q u committed_there clip.1 (clip.0, clip.2, clip.3) key bytes clip.4 in
      let low = subst (λ snapshot. written_above snapshot key own_writes ≡ false) txn.2.snapshot
      (low_from_current u.snapshot q.batch.version key own_writes own_earlier known) in
      let none = none_from_current u.snapshot q.batch.version key own_writes own_earlier known in
      current_from_tests t.snapshot p.batch.version key (writes (take i ps)) (earlier p.batch p.reply j)
      (false_if (written_above t.snapshot key (writes (take i ps))) (written_above t.snapshot key own_writes)
      (clips_above shard key bytes has t.snapshot i ps own clips says) low)
      (false_if (in_ranges (earlier p.batch p.reply j) key) (in_ranges own_earlier key)
      (written_by_clips shard key bytes has p.batch.txns q.batch.txns p.reply.entries q.reply.entries j batch.2.txns
      entries_say) none)

-- if each shard's own list is a chain, the reads of what all shards commit are current
pub shards_current : (window : ℤ) (points : List (List ℕ)) (each : List (List Processed)) (ps : List Processed)
    → AreByShards window points each ps → Current ps
shards_current window points each ps by_shards i j p t c range read key bytes held =
    let place = some_shard points [] key (none_before_empty key) in
    let m = place.0 in
    let inside : m < length each = subst (λ n. m < n) (sym by_shards.one_each)
    (slice_get_within (shards points) m place.1 place.2) in
    let own = get_or each m [] in
    let chain = All-get_or (IsChain window) each m [] inside by_shards.chains in
    let clips = by_shards.clips m place.1 own place.2 (slice_get-get_or each m [] inside) in
    let says = λ (k l : ℕ) (s : SaysCommitted k l ps).
    All-get_or (SaysCommitted k l) each m [] inside (by_shards.verdicts k l s) in
    current_in_shard place.1 ps own clips says (chain_current window own chain) i j p t c range read key bytes held
    place.3

-- the versions of a batch and of its clip are the same, so versions rise if those of a shard's own list do
rises_with : (shard : Shard) (ps own : List Processed)
    → AllZip (λ (p c : Processed). IsBatchClip shard p.batch c.batch) ps own → VersionsRise own → VersionsRise ps
rises_with shard ps own clips rise i k p q here there h =
    let R = λ (p c : Processed). IsBatchClip shard p.batch c.batch in
    let one = partner R ps own clips i p here in
    let other = partner R ps own clips k q there in
    subst (λ v. p.batch.version ≤ℤ v) other.2.version (subst (λ v. v ≤ℤ other.0.batch.version) one.2.version
    (rise i k one.0 other.0 one.1 other.1 h))

-- if each shard's own list is a chain, the versions of the batches rise
pub shards_rise : (window : ℤ) (points : List (List ℕ)) (each : List (List Processed)) (ps : List Processed)
    → AreByShards window points each ps → VersionsRise ps
shards_rise window points each ps by_shards =
    let place = some_shard points [] [] refl in
    let m = place.0 in
    let inside : m < length each = subst (λ n. m < n) (sym by_shards.one_each)
    (slice_get_within (shards points) m place.1 place.2) in
    let own = get_or each m [] in
    let chain = All-get_or (IsChain window) each m [] inside by_shards.chains in
    rises_with place.1 ps own (by_shards.clips m place.1 own place.2 (slice_get-get_or each m [] inside))
    (version_up_to window own chain)
