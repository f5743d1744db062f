-- If versions rise and reads are current, a snapshot is a place in the commit order.
use Rattle.std.proofs.Common.{◌≡◌, ℕ, zero, suc, ◌+◌, ◌<◌, ◌≤◌, true, false, List, [], ◌∷◌, length, take, drop, get_or, ℤ, int_le, ◌<ℤ◌, refl, sym, ◌∙◌, ap, subst, arith, inl, inr}
use Rattle.std.specs.Prelude.{◌≤ℤ◌, Option, Some, None, slice_get, All}
use Rattle.std.proofs.Math.Seq.{take-length}
use Rattle.std.proofs.lemmas.Int.{ints}
use Rattle.std.proofs.lemmas.Bool.{cases_lt}
use Rattle.std.proofs.lemmas.Option.{slice_get_within, slice_get-get_or}
use Rattle.keys.proofs.callers.Booleans.{true_or_false}
use Rattle.keyspace.specs.Processed.{Processed}
use Rattle.keyspace.specs.Chain.{IsChain}
use Rattle.serial.specs.Stores.{Store, Plans, Stores, start, at_snapshot, run_txns, stores_after}
use Rattle.serial.specs.Commits.{Current}
use Rattle.serial.specs.Serial.{IsPlace, SnapshotsArePlaces}
use Rattle.serial.proofs.Reading.{chain_current, above_from_test}
use Rattle.serial.proofs.Steps.{from_take, maybe_batch, run_batches-suc, run_txns-after, at_snapshot-low, at_snapshot-high}
use Rattle.serial.proofs.Running.{same_after}
use Rattle.serial.proofs.Versions.{take_no_more, at_most_through, VersionsRise, version_up_to}

-- an element after the first ones of a list is in the list, as many places on
from_drop : {X : Type 0} (xs : List X) (n k : ℕ) (x : X) → slice_get (drop n xs) k ≡ Some x
    → (m : ℕ) × (n ≤ m) × (slice_get xs m ≡ Some x)
from_drop [] zero k x h = let never : ⊥ = cc in absurd never
from_drop [] (suc n) k x h = let never : ⊥ = cc in absurd never
from_drop (y ∷ xs) zero k x h = (k, omega arith, h)
from_drop (y ∷ xs) (suc n) k x h =
    let more = from_drop xs n k x h in
    let above = more.1 in
    (suc more.0, omega (arith, above), more.2)

-- a property of the element at each index holds of all
all_from_each : {X : Type 0} (P : X → Type 0) (xs : List X) → ((k : ℕ) (x : X) → slice_get xs k ≡ Some x → P x)
    → All P xs
all_from_each P xs each = λ k d below. each k (get_or xs k d) (slice_get-get_or xs k d below)

-- a version that passes the test is at or below the snapshot
at_or_below : (version snapshot : ℤ) → int_le version snapshot ≡ true → version ≤ℤ snapshot
at_or_below version snapshot h = grind (arith, ints)

module _ (ps : List Processed) (rise : VersionsRise ps) (first : Store) (plans : Plans) (snapshot : ℤ) where
  -- The first i batches are those up to the last one with a version at or below the snapshot, and later ones. The store at the
  -- snapshot is what the former left.
  record IsSplit (i : ℕ) : Type 0 where
    batches : ℕ
    within : batches ≤ i
    included : (k : ℕ) (q : Processed) → k < batches → slice_get ps k ≡ Some q → q.batch.version ≤ℤ snapshot
    later :
        (k : ℕ) (q : Processed) → batches ≤ k → k < i → slice_get ps k ≡ Some q → snapshot <ℤ q.batch.version
    store :
        at_snapshot snapshot first (stores_after first plans (take i ps)).after
        ≡ (stores_after first plans (take batches ps)).as_run

  -- the stores after one more batch
  one_more : (i : ℕ) → stores_after first plans (take (suc i) ps)
      ≡ maybe_batch first (slice_get ps i) (plans i) (stores_after first plans (take i ps))
  one_more i =
      let index : 0 + i ≡ i = omega arith in
      run_batches-suc first plans 0 ps i (start first)
      ∙ ap (λ n. maybe_batch first (slice_get ps i) (plans n) (stores_after first plans (take i ps))) index

  -- if there is no more batch, nothing changes
  split_at_end : (i : ℕ) → slice_get ps i ≡ None → IsSplit i → IsSplit (suc i)
  split_at_end i at split =
      let within = split.within in
      record {
        batches = split.batches;
        within = omega (arith, within);
        included = split.included;
        later = λ k q above below there.
            elim (cases_lt k i) [
              | inl earlier ↦ split.later k q above earlier there
              | inr here ↦ let index : k ≡ i = omega arith in
                  let never : ⊥ = let none = subst (λ n. slice_get ps n ≡ None) (sym index) at in cc in
                  absurd never
            ];
        store = rw (take_no_more ps i at) split.store;
      }

  -- a batch above the snapshot is a later one
  split_above : (i : ℕ) (p : Processed) → slice_get ps i ≡ Some p → int_le p.batch.version snapshot ≡ false
      → IsSplit i → IsSplit (suc i)
  split_above i p at high split =
      let within = split.within in
      let s = stores_after first plans (take i ps) in
      let ran = run_txns first (plans i) 0 p.batch.txns p.reply.entries s in
      let more = one_more i ∙ ap (λ o. maybe_batch first o (plans i) s) at in
      record {
        batches = split.batches;
        within = omega (arith, within);
        included = split.included;
        later = λ k q above below there.
            elim (cases_lt k i) [
              | inl earlier ↦ split.later k q above earlier there
              | inr here ↦ let index : k ≡ i = omega arith in
                  let same : p ≡ q = let moved = subst (λ n. slice_get ps n ≡ Some q) index there in cc in
                  let is_high : int_le q.batch.version snapshot ≡ false = rw (← same) high in
                  above_from_test q.batch.version snapshot (rw is_high refl)
            ];
        store = ap (λ (s : Stores). at_snapshot snapshot first s.after) more
            ∙ at_snapshot-high snapshot first ran.after p.batch.version ran.as_run high
            ∙ ap (λ after. at_snapshot snapshot first after)
            (run_txns-after first (plans i) 0 p.batch.txns p.reply.entries s)
            ∙ split.store;
      }

  -- a batch at or below the snapshot is included, with all before it
  split_below : (i : ℕ) (p : Processed) → slice_get ps i ≡ Some p → int_le p.batch.version snapshot ≡ true
      → IsSplit (suc i)
  split_below i p at low =
      let s = stores_after first plans (take i ps) in
      let ran = run_txns first (plans i) 0 p.batch.txns p.reply.entries s in
      let more = one_more i ∙ ap (λ o. maybe_batch first o (plans i) s) at in
      record {
        batches = suc i;
        within = omega arith;
        included = λ k q below there.
            at_most_through q.batch.version p.batch.version snapshot
            (rise k i q p there at (omega (arith, below)))
            (at_or_below p.batch.version snapshot low);
        later = λ k q above below there. absurd (omega (arith, above, below));
        store = ap (λ (s : Stores). at_snapshot snapshot first s.after) more
            ∙ at_snapshot-low snapshot first ran.after p.batch.version ran.as_run low
            ∙ ap (λ (s : Stores). s.as_run) (sym more);
      }

  -- with one more batch, if there is one, they are still split
  split_one_more : (i : ℕ) (o : Option Processed) → slice_get ps i ≡ o → IsSplit i → IsSplit (suc i)
  split_one_more i None at split = split_at_end i at split
  split_one_more i (Some p) at split =
      elim (true_or_false (int_le p.batch.version snapshot)) [
        | inl low ↦ split_below i p at low
        | inr high ↦ split_above i p at high split
      ]

  split_up_to : (i : ℕ) → IsSplit i
  split_up_to zero = record {
    batches = 0;
    within = omega arith;
    included = λ k q below there. absurd (omega (arith, below));
    later = λ k q above below there. absurd (omega (arith, below));
    store = refl;
  }
  split_up_to (suc i) = split_one_more i (slice_get ps i) refl (split_up_to i)

  -- so the snapshot is a place, if reads are current
  is_place : Current ps → IsPlace first plans ps snapshot
  is_place current =
      let split = split_up_to (length ps) in
      let store = subst (λ qs. at_snapshot snapshot first (stores_after first plans qs).after
      ≡ (stores_after first plans (take split.batches ps)).as_run) (take-length ps) split.store in
      record {
        batches = split.batches;
        included = all_from_each (λ p. p.batch.version ≤ℤ snapshot) (take split.batches ps) (λ k q at.
            let there = from_take ps split.batches k q at in split.included k q there.0 there.1);
        later = all_from_each (λ p. snapshot <ℤ p.batch.version) (drop split.batches ps) (λ k q at.
            let there = from_drop ps split.batches k q at in
            split.later there.0 q there.1 (slice_get_within ps there.0 q there.2) there.2);
        store = store;
        serially = λ keep declared. store
            ∙ same_after first plans ps current keep declared split.batches;
      }

-- if versions rise and reads are current, each snapshot is a place
pub places : (ps : List Processed) → VersionsRise ps → Current ps → SnapshotsArePlaces ps
places ps rise current first plans snapshot = is_place ps rise first plans snapshot current

-- so it is in a chain
pub chain_places : (window : ℤ) (ps : List Processed) → IsChain window ps → SnapshotsArePlaces ps
chain_places window ps chain = places ps (version_up_to window ps chain) (chain_current window ps chain)
