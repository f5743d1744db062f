-- If versions rise, a snapshot includes the writes up to each transaction that it includes.
use Rattle.std.proofs.Common.{◌≡◌, ℕ, zero, suc, ◌<◌, ◌≤◌, Bool, true, false, ◌||◌, int_le, refl, append-nil, List, [], ◌∷◌, ◌++◌, take, ℤ, sym, ◌∙◌, ap, append_assoc, arith}
use Rattle.std.specs.Prelude.{◌≤ℤ◌, Option, Some, None, slice_get}
use Rattle.std.proofs.lemmas.Int.{ints}
use Rattle.std.proofs.Math.Bool.{and-false}
use Rattle.std.proofs.lemmas.List.{map-append}
use Rattle.std.proofs.lemmas.List.Elements.{filter-append}
use Rattle.keys.specs.declared.range.Range.{Range}
use Rattle.keyspace.specs.declared.txn.Txn.{Txn}
use Rattle.keyspace.specs.declared.reply.Verdict.TheVariants.{Committed}
use Rattle.keyspace.specs.declared.reply.Entry.{Entry}
use Rattle.keyspace.specs.Processed.{Processed}
use Rattle.keyspace.specs.Writes.{Write, at_version, counted_ranges, committed_ranges, writes, writes_of, earlier}
use Rattle.keyspace.specs.Chain.{IsChain}
use Rattle.serial.specs.Commits.{IsCommitted, before, holds, writes_holding, up_to}
use Rattle.serial.specs.Serial.{RealTime}
use Rattle.serial.specs.Stores.{in_ranges}
use Rattle.serial.proofs.Filters.{filter_same}
use Rattle.serial.proofs.Holding.{written_above, written_above-append}
use Rattle.serial.proofs.Reading.{the_value}
use Rattle.serial.proofs.Steps.{maybe_writes, writes-suc}
use Rattle.serial.proofs.Clipping.{above_at_version}
use Rattle.serial.proofs.Versions.{at_most_through, VersionsRise, version_up_to, comes_before}

-- the writes of the first batches are those before an earlier batch, its own, and later ones
writes_split : (ps : List Processed) (k i : ℕ) (q : Processed) → slice_get ps k ≡ Some q → k < i
    → (later : List Write) × (writes (take i ps) ≡ writes (take k ps) ++ (writes_of q.batch q.reply ++ later))
writes_split [] k i q at h = absurd (let never : ⊥ = cc in never)
writes_split (p ∷ ps) k zero q at h = absurd (omega arith)
writes_split (p ∷ ps) zero (suc i) q at h =
    let same : p ≡ q = cc in
    (writes (take i ps), ap (λ (x : Processed). writes_of x.batch x.reply ++ writes (take i ps)) same)
writes_split (p ∷ ps) (suc k) (suc i) q at h =
    let own = writes_of p.batch p.reply in
    let rest = writes_split ps k i q at (omega arith) in (
      rest.0,
      ap (λ ws. own ++ ws) rest.1
          ∙ sym (append_assoc own (writes (take k ps)) (writes_of q.batch q.reply ++ rest.0)),
    )

-- the write ranges of committed transactions are those before one of them, its own, and later ones
committed_split : (ts : List Txn) (es : List Entry) (l : ℕ) (u : Txn) (e : Entry) → slice_get ts l ≡ Some u
    → slice_get es l ≡ Some e → e.verdict ≡ Committed
    → (later : List Range) × (committed_ranges ts es ≡ committed_ranges (take l ts) (take l es) ++ (u.writes ++ later))
committed_split [] es l u e is_txn is_entry verdict = absurd (let never : ⊥ = cc in never)
committed_split (t ∷ ts) [] l u e is_txn is_entry verdict = absurd (let never : ⊥ = cc in never)
committed_split (t ∷ ts) (d ∷ es) zero u e is_txn is_entry verdict =
    let same : t ≡ u = cc in
    let entry : d ≡ e = cc in (
      committed_ranges ts es,
      ap (λ v. counted_ranges v t.writes ++ committed_ranges ts es) (ap (λ (x : Entry). x.verdict) entry ∙ verdict)
          ∙ ap (λ (x : Txn). x.writes ++ committed_ranges ts es) same,
    )
committed_split (t ∷ ts) (d ∷ es) (suc l) u e is_txn is_entry verdict =
    let own = counted_ranges d.verdict t.writes in
    let rest = committed_split ts es l u e is_txn is_entry verdict in (
      rest.0,
      ap (λ ranges. own ++ ranges) rest.1
          ∙ sym (append_assoc own (committed_ranges (take l ts) (take l es)) (u.writes ++ rest.0)),
    )

-- ranges at one version, by three parts
at_version-parts : (version : ℤ) (first middle last : List Range)
    → at_version version (first ++ (middle ++ last))
    ≡ at_version version first ++ (at_version version middle ++ at_version version last)
at_version-parts version first middle last =
    let with_version : Range → Write = λ range. record { range = range; version = version } in
    map-append with_version first (middle ++ last)
    ∙ ap (λ ws. at_version version first ++ ws) (map-append with_version middle last)

-- the writes that hold a key, by three parts
holding-parts : (key : List ℕ) (first middle last : List Write)
    → writes_holding key (first ++ (middle ++ last)) ≡ writes_holding key first ++ (writes_holding key middle ++ writes_holding key last)
holding-parts key first middle last =
    let test = λ (w : Write). holds w.range key in
    filter-append test first (middle ++ last)
    ∙ ap (λ ws. writes_holding key first ++ ws) (filter-append test middle last)

-- lists joined one way or the other
regrouped : (first own txn others later last : List Write)
    → (first ++ ((own ++ (txn ++ others)) ++ later)) ++ last
    ≡ (first ++ own) ++ (txn ++ (others ++ (later ++ last)))
regrouped first own txn others later last = simp append_assoc

-- the writes before a transaction of a later batch are those before a committed one, its own, and later ones
before_split : (ps : List Processed) (k l : ℕ) (q : Processed) (u : Txn) → IsCommitted ps k l q u
    → (i j : ℕ) (p : Processed) → k < i
    → (later : List Write)
    × (before ps i p j ≡ before ps k q l ++ (at_version q.batch.version u.writes ++ later))
before_split ps k l q u c i j p h =
    let entry = the_value (λ (e : Entry). e.verdict ≡ Committed) (slice_get q.reply.entries l) c.verdict in
    let version = q.batch.version in
    let ranges = committed_split q.batch.txns q.reply.entries l u entry.0 c.txn entry.1 entry.2 in
    let ws = writes_split ps k i q c.batch h in
    let last = at_version p.batch.version (earlier p.batch p.reply j) in
    let first = writes (take k ps) in
    let own = at_version version (earlier q.batch q.reply l) in
    let txn = at_version version u.writes in
    let others = at_version version ranges.0 in
    let parts = ap (at_version version) ranges.1
    ∙ at_version-parts version (earlier q.batch q.reply l) u.writes ranges.0 in (
      others ++ (ws.0 ++ last),
      ap (λ done. done ++ last) (ws.1 ∙ ap (λ batch. first ++ (batch ++ ws.0)) parts)
          ∙ regrouped first own txn others ws.0 last,
    )

-- no write at a version at or below the snapshot is above it
none_above_at : (snapshot version : ℤ) (key : List ℕ) (ranges : List Range) → version ≤ℤ snapshot
    → written_above snapshot key (at_version version ranges) ≡ false
none_above_at snapshot version key ranges h =
    let low : int_le version snapshot ≡ true = grind (arith, ints) in
    above_at_version snapshot version key ranges ∙ rw low (and-false (in_ranges ranges key))

-- if none of two parts passes, neither does one of both
none_of_both : (a b : Bool) → a ≡ false → b ≡ false → (a || b) ≡ false
none_of_both a b h k = rw (h, k) refl

-- the same of a batch, if there is one
maybe_none_above : (snapshot : ℤ) (key : List ℕ) (o : Option Processed)
    → ((p : Processed) → o ≡ Some p → p.batch.version ≤ℤ snapshot)
    → written_above snapshot key (maybe_writes o) ≡ false
maybe_none_above snapshot key None low = refl
maybe_none_above snapshot key (Some p) low =
    none_above_at snapshot p.batch.version key (committed_ranges p.batch.txns p.reply.entries) (low p refl)

module _ (ps : List Processed) (rise : VersionsRise ps) (snapshot : ℤ) (key : List ℕ) where
  -- up to a batch with a version at or below the snapshot, no write is above it
  none_above : (k : ℕ) (q : Processed) → slice_get ps k ≡ Some q → q.batch.version ≤ℤ snapshot → (n : ℕ) → n ≤ k
      → written_above snapshot key (writes (take n ps)) ≡ false
  none_above k q there low zero h = refl
  none_above k q there low (suc n) h =
      let earlier = none_above k q there low n (omega (arith, h)) in
      let one = maybe_none_above snapshot key (slice_get ps n) (λ p here.
      at_most_through p.batch.version q.batch.version snapshot (rise n k p q here there (omega (arith, h))) low) in
      ap (written_above snapshot key) (writes-suc ps n)
      ∙ written_above-append snapshot key (writes (take n ps)) (maybe_writes (slice_get ps n))
      ∙ none_of_both _ _ earlier one

  -- a snapshot that includes a committed transaction includes all writes up to it
  included : (k l : ℕ) (q : Processed) (u : Txn) → IsCommitted ps k l q u → q.batch.version ≤ℤ snapshot
      → (i : ℕ) (p : Processed) → k < i
      → (rest : List Write) × (writes_holding key (up_to snapshot (writes (take i ps)))
      ≡ writes_holding key (before ps k q l) ++ (writes_holding key (at_version q.batch.version u.writes) ++ rest))
  included k l q u c low i p h =
      let split = before_split ps k l q u c i 0 p h in
      let first = before ps k q l in
      let txn = at_version q.batch.version u.writes in
      let is_low = λ (w : Write). int_le w.version snapshot in
      let same = λ (ws : List Write) (none : written_above snapshot key ws ≡ false).
      sym (filter_same (λ w. holds w.range key) is_low ws none) in
      let first_low = written_above-append snapshot key (writes (take k ps))
      (at_version q.batch.version (earlier q.batch q.reply l))
      ∙ none_of_both _ _ (none_above k q c.batch low k (omega arith))
      (none_above_at snapshot q.batch.version key (earlier q.batch q.reply l) low) in
      let txn_low = none_above_at snapshot q.batch.version key u.writes low in
      let entire = sym (append-nil (writes (take i ps))) ∙ split.1 in (
        writes_holding key (up_to snapshot split.0),
        ap (λ ws. writes_holding key (up_to snapshot ws)) entire
            ∙ ap (writes_holding key) (filter-append is_low first (txn ++ split.0)
            ∙ ap (λ ws. up_to snapshot first ++ ws) (filter-append is_low txn split.0))
            ∙ holding-parts key (up_to snapshot first) (up_to snapshot txn) (up_to snapshot split.0)
            ∙ ap (λ ws. ws ++ (writes_holding key (up_to snapshot txn) ++ writes_holding key (up_to snapshot split.0)))
            (same first first_low)
            ∙ ap (λ ws. writes_holding key first ++ (ws ++ writes_holding key (up_to snapshot split.0))) (same txn txn_low),
      )

-- if versions rise, real time is kept by transactions that read below their batch's version, whatever the verdicts are
pub real_time : (ps : List Processed) → VersionsRise ps → RealTime ps
real_time ps rise k l q u c i j p t d below above =
    let is_later = comes_before ps rise k i q p t.snapshot c.batch d.batch above below in
    record {
      later = is_later;
      reads = λ range read key bytes held. included ps rise t.snapshot key k l q u c above i p is_later;
    }

-- so it is kept in a chain
pub chain_real_time : (window : ℤ) (ps : List Processed) → IsChain window ps → RealTime ps
chain_real_time window ps chain = real_time ps (version_up_to window ps chain)
