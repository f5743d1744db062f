-- The worked examples of lists that aren't chains.
use Rattle.std.proofs.Common.{false, ◌≡◌, ℕ, zero, suc, ◌<◌, ◌≤◌, true, List, [], ◌∷◌, take, drop, map, ℤ, ◌<ℤ◌, refl, ap, subst, arith}
use Rattle.std.specs.Prelude.{IsSomeAnd, ◌≤ℤ◌, pos, Some, slice_get, All}
use Rattle.std.proofs.lemmas.Int.{ints}
use Rattle.keys.specs.Key.{IsBytes}
use Rattle.keyspace.specs.declared.txn.Txn.{Txn}
use Rattle.keyspace.specs.Processed.{Processed}
use Rattle.keyspace.specs.Writes.{Write}
use Rattle.keyspace.specs.declared.TheConstants.{WINDOW}
use Rattle.keyspace.specs.declared.reply.Verdict.TheVariants.{Committed}
use Rattle.keyspace.specs.declared.reply.Entry.{Entry}
use Rattle.keyspace.specs.Laws.{RunsAreChains}
use Rattle.keyspace.specs.Rows.{Limits, letter, txn, ab, xy, write_ab}
use Rattle.serial.specs.Commits.{IsCommitted, Current}
use Rattle.serial.specs.Stores.{at_snapshot, stores_after}
use Rattle.serial.specs.Serial.{ReadsAreCurrent, IsPlace, RealTime}
use Rattle.serial.specs.RowStores.{first_store, effect_of, HasTxn, letter_bytes, at_x}
use Rattle.serial.specs.ClauseRows.{flipped_chain, flipped_plans, swapped_chain, swapped_writers, ClauseRows}
use Rattle.serial.proofs.Running.{effect_declared}
use Rattle.serial.proofs.Isolation.{current_isolated}
use Rattle.serial.specs.RowLists.{processed_by, committed_if_conflict, chain, all_kinds}
use Rattle.serial.proofs.Reading.{some_at, the_value}
use Rattle.serial.proofs.Versions.{VersionsRise, version_up_to}
use Rattle.serial.proofs.Following.{real_time}
use Rattle.serial.proofs.ByShards.{contains_at}
use Rattle.serial.proofs.EffectRows.{effect_kept, effects_keep, effects_declared}

-- a batch keeps its version, whatever its verdicts
kept_version : (entry : Entry → Entry) (ps : List Processed) (i : ℕ) (p : Processed)
    → slice_get (map (processed_by entry) ps) i ≡ Some p
    → (q : Processed) × (slice_get ps i ≡ Some q) × (q.batch.version ≡ p.batch.version)
kept_version entry [] i p h = absurd (let never : ⊥ = cc in never)
kept_version entry (q ∷ ps) zero p h =
    let same : processed_by entry q ≡ p = cc in
    (q, refl, ap (λ (x : Processed). x.batch.version) same)
kept_version entry (q ∷ ps) (suc i) p h = kept_version entry ps i p h

-- so versions rise whatever the verdicts
rises_by : (entry : Entry → Entry) (ps : List Processed) → VersionsRise ps
    → VersionsRise (map (processed_by entry) ps)
rises_by entry ps rise i k p q here there h =
    let one = kept_version entry ps i p here in
    let other = kept_version entry ps k q there in
    subst (λ v. p.batch.version ≤ℤ v) other.2 (subst (λ v. v ≤ℤ other.0.batch.version) one.2
    (rise i k one.0 other.0 one.1 other.1 h))

-- what holds of all versions holds of one
version_at : (Q : ℤ → Type 0) (ps : List Processed) → All (λ p. Q p.batch.version) ps
    → (k : ℕ) (v : ℤ) → slice_get (map (λ (p : Processed). p.batch.version) ps) k ≡ Some v → Q v
version_at Q [] all k v h = absurd (let never : ⊥ = cc in never)
version_at Q (p ∷ ps) all zero v h =
    let same : p.batch.version ≡ v = cc in
    subst Q same (all 0 p (omega arith))
version_at Q (p ∷ ps) all (suc k) v h =
    version_at Q ps (λ m d below. all (suc m) d (omega (arith, below))) k v h

-- what holds of a committed transaction holds of the one at these indices, if it is committed
of_committed : (ps : List Processed) (i j : ℕ) (P : Processed → Txn → Type 0)
    → ((p : Processed) (t : Txn) → IsCommitted ps i j p t → P p t)
    → HasTxn ps i j (λ p t. IsSomeAnd (slice_get p.reply.entries j) (λ e. e.verdict ≡ Committed))
    → HasTxn ps i j P
of_committed ps i j P each there =
    let batch = the_value (λ (p : Processed). IsSomeAnd (slice_get p.batch.txns j) (λ t.
    IsSomeAnd (slice_get p.reply.entries j) (λ e. e.verdict ≡ Committed))) (slice_get ps i) there in
    let p = batch.0 in
    let txn = the_value (λ (t : Txn). IsSomeAnd (slice_get p.reply.entries j) (λ e. e.verdict ≡ Committed))
    (slice_get p.batch.txns j) batch.2 in
    let c : IsCommitted ps i j p txn.0 = record { batch = batch.1; txn = txn.1; verdict = txn.2 } in
    some_at (λ (p : Processed). IsSomeAnd (slice_get p.batch.txns j) (λ t. P p t)) (slice_get ps i) p batch.1
    (some_at (λ (t : Txn). P p t) (slice_get p.batch.txns j) txn.0 txn.1 (each p txn.0 c))

-- a number that is at most another one isn't above it, as a version
not_above : (a b : ℕ) → pos a <ℤ pos b → b ≤ a → ⊥
not_above a b h k = omega (arith, ints)

-- nor is one that is above another one at or below it
not_up_to : (a b : ℕ) → pos a ≤ℤ pos b → b < a → ⊥
not_up_to a b h k = omega (arith, ints)

-- a version below another one
is_below : (a b : ℕ) → a < b → pos a <ℤ pos b
is_below a b h = omega (arith, ints)

-- a version at or below another one
is_up_to : (a b : ℕ) → a ≤ b → pos a ≤ℤ pos b
is_up_to a b h = omega (arith, ints)

-- the version of the first write
abbrev head_version : List Write → ℤ
head_version [] = pos 0
head_version (w ∷ ws) = w.version

-- different numbers are different versions
pub not_equal : (a b : ℕ) → a < b → pos a ≡ pos b → ⊥
not_equal a b h k = let same : a ≡ b = cc in omega (arith, same)

-- the two values of a, and of x, are not the same
not_same_a : (one other : List ℕ) → one ≡ 97 ∷ [] → other ≡ 1 ∷ 0 ∷ [] → Some one ≡ Some other → ⊥
not_same_a one other h k same = cc

pub not_same_x : (one other : List ℕ) → one ≡ 2 ∷ 1 ∷ 97 ∷ [] → other ≡ 2 ∷ 1 ∷ 1 ∷ 0 ∷ []
    → Some one ≡ Some other → ⊥
not_same_x one other h k same = cc

module _ (limits : Limits) where
  -- the transaction whose verdict is flipped
  abbrev flipped_txn : Txn
  flipped_txn = txn limits 50 true (ab limits ∷ []) (xy limits ∷ []) refl

  -- the reader whose snapshot is between the two writers
  abbrev late_reader : Txn
  late_reader = txn limits 150 false (ab limits ∷ []) (xy limits ∷ []) refl

  -- the snapshot 250 can be a place after the first three batches alone
  only_after_three : (n : ℕ) → All (λ p. p.batch.version ≤ℤ pos 250) (take n (flipped_chain limits))
      → All (λ p. pos 250 <ℤ p.batch.version) (drop n (flipped_chain limits)) → n ≡ 3
  only_after_three zero included later =
      absurd (not_above 250 0 (version_at (λ v. pos 250 <ℤ v) (flipped_chain limits) later 0 (pos 0) refl) (omega arith))
  only_after_three (suc zero) included later =
      absurd (not_above 250 100 (version_at (λ v. pos 250 <ℤ v) (drop 1 (flipped_chain limits)) later 0 (pos 100) refl)
      (omega arith))
  only_after_three (suc (suc zero)) included later =
      absurd (not_above 250 200 (version_at (λ v. pos 250 <ℤ v) (drop 2 (flipped_chain limits)) later 0 (pos 200) refl)
      (omega arith))
  only_after_three (suc (suc (suc zero))) included later = refl
  only_after_three (suc (suc (suc (suc n)))) included later =
      absurd (not_up_to 300 250 (version_at (λ v. v ≤ℤ pos 250)
      (take (suc (suc (suc (suc n)))) (flipped_chain limits)) included 3 (pos 300) refl) (omega arith))

  -- if versions fall, the snapshot 150 is no place
  nowhere : (n : ℕ) → All (λ p. p.batch.version ≤ℤ pos 150) (take n (swapped_chain limits))
      → All (λ p. pos 150 <ℤ p.batch.version) (drop n (swapped_chain limits)) → ⊥
  nowhere zero included later =
      not_above 150 0 (version_at (λ v. pos 150 <ℤ v) (swapped_chain limits) later 0 (pos 0) refl) (omega arith)
  nowhere (suc zero) included later =
      not_above 150 100 (version_at (λ v. pos 150 <ℤ v) (drop 1 (swapped_chain limits)) later 1 (pos 100) refl)
      (omega arith)
  nowhere (suc (suc n)) included later =
      not_up_to 200 150 (version_at (λ v. v ≤ℤ pos 150) (take (suc (suc n)) (swapped_chain limits)) included 1 (pos 200)
      refl) (omega arith)

  -- a is a byte string
  a_bytes : IsBytes (letter 97)
  a_bytes = letter_bytes limits 97 refl

  no_place : IsPlace first_store (flipped_plans limits) (flipped_chain limits) (pos 250) → ⊥
  no_place place =
      let after_three = only_after_three place.batches place.included place.later in
      let same = place.serially (effects_keep (flipped_chain limits)) (effects_declared (flipped_chain limits)) in
      let moved = subst (λ n. at_snapshot (pos 250) first_store
      (stores_after first_store (flipped_plans limits) (flipped_chain limits)).after
      ≡ (stores_after first_store (flipped_plans limits) (take n (flipped_chain limits))).serially) after_three same in
      not_same_x _ _ refl refl (ap (at_x limits) moved)

  not_real_time : RealTime (swapped_chain limits) → ⊥
  not_real_time real =
      let committed_there : IsCommitted (swapped_chain limits) 2 0 _ _ = record { batch = refl; txn = refl; verdict = refl } in
      let committed_here : IsCommitted (swapped_chain limits) 1 0 _ _ = record { batch = refl; txn = refl; verdict = refl } in
      let follows = real 2 0 _ _ committed_there 1 0 _ _ committed_here (is_below 100 200 (omega arith))
      (is_up_to 100 100 (omega arith)) in
      let later : 2 < 1 = follows.later in
      absurd (omega (arith, later))

  not_following : RealTime (swapped_writers limits) → ⊥
  not_following real =
      let there : IsCommitted (swapped_writers limits) 2 0 _ (write_ab limits) = record { batch = refl; txn = refl; verdict = refl } in
      let here : IsCommitted (swapped_writers limits) 3 0 _ late_reader = record { batch = refl; txn = refl; verdict = refl } in
      let follows = real 2 0 _ _ there 3 0 _ _ here (is_below 150 300 (omega arith)) (is_up_to 100 150 (omega arith)) in
      let reads = follows.reads (ab limits) (contains_at (ab limits ∷ []) 0 (ab limits) refl) (letter 97) a_bytes refl in
      not_equal 100 200 (omega arith) (ap head_version reads.1)

  not_current : Current (flipped_chain limits) → ⊥
  not_current current =
      let isolated = current_isolated (flipped_chain limits) current first_store (flipped_plans limits)
      (effects_keep (flipped_chain limits)) 2 1 in
      let reads = of_committed (flipped_chain limits) 2 1
      (λ p t. ReadsAreCurrent first_store (flipped_plans limits) (flipped_chain limits) 2 1 p t)
      (λ p t c. (isolated p t c).reads) (refl {a = Committed}) in
      not_same_a _ _ refl refl (reads (letter 97) a_bytes refl)

  module _ (are_chains : RunsAreChains) where
    -- the versions of the list with other verdicts rise
    flipped_rises : VersionsRise (flipped_chain limits)
    flipped_rises =
        rises_by (λ e. committed_if_conflict e.verdict e) (chain limits)
        (version_up_to WINDOW (chain limits) (are_chains WINDOW (all_kinds limits)))

    pub rows : ClauseRows limits
    rows = record {
      reads_fails = (refl, refl, λ h. not_same_a _ _ refl refl (h (letter 97) a_bytes refl));
      place_fails = (
        refl,
        refl,
        λ h.
            let declared = effect_declared flipped_txn (effect_of (Some flipped_txn) 2 1) (flipped_plans limits 2 1)
            (effect_kept flipped_txn 2 1) refl _ _ in
            not_same_x _ _ refl refl (λ i. at_x limits (h declared i)),
      );
      serial_reads_fails = (refl, λ h. not_same_a _ _ refl refl (h (letter 97) a_bytes refl));
      store_fails = (refl, refl, λ h. not_same_x _ _ refl refl (λ i. at_x limits (h i)));
      serial_place_fails = (refl, refl, no_place);
      place_needs_versions = λ plans place. nowhere place.batches place.included place.later;
      place_ignores_verdicts = refl;
      real_time_ignores_verdicts = real_time (flipped_chain limits) flipped_rises;
      later_needs_versions = not_real_time;
      follows_needs_versions = not_following;
      flipped_not_current = not_current;
    }
