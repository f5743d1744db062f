-- Each committed transaction alone: if reads are current, it may be run at its place.
use Rattle.std.proofs.Common.{◌≡◌, ℕ, zero, suc, ◌+◌, true, false, not, ◌&&◌, ◌||◌, List, [], ◌∷◌, ◌++◌, take, ℤ, int_le, refl, sym, ◌∙◌, ap, subst, append-nil, arith}
use Rattle.std.specs.Prelude.{Option, Some, None, slice_get}
use Rattle.std.proofs.lemmas.List.Folds.{Any-from_list_any}
use Rattle.keys.specs.declared.range.Range.{Range}
use Rattle.keyspace.specs.declared.txn.Txn.{Txn}
use Rattle.keyspace.specs.declared.reply.Verdict.TheVariants.{Committed}
use Rattle.keyspace.specs.declared.reply.Entry.{Entry}
use Rattle.keyspace.specs.Processed.{Processed}
use Rattle.keyspace.specs.Writes.{Write, at_version, committed_ranges, writes, writes_of, earlier}
use Rattle.keys.specs.Key.{IsBytes}
use Rattle.serial.specs.Commits.{IsCommitted, holds, Current}
use Rattle.serial.specs.Stores.{Store, in_ranges, Plan, Plans, KeepsToWrites, AllKeepToWrites, Stores, start, at_snapshot, run_txns, stores_after, place_store}
use Rattle.serial.specs.Serial.{ReadsAreCurrent, IsIsolated, EachIsIsolated}
use Rattle.serial.proofs.Holding.{written_above, written_above-append, low_from_current, none_from_current}
use Rattle.serial.proofs.Reading.{some_at}
use Rattle.serial.proofs.Steps.{
  from_take,
  maybe_batch,
  maybe_writes,
  run_batches-suc,
  writes-suc,
  run_txns-after,
  AllKeep,
  run_txns-keeps,
  none_of_first,
  none_of_second,
  at_snapshot-low,
  at_snapshot-high,
}

-- What is known of the stores after batches that committed these writes: if no write that holds the key is above the
-- snapshot, the store at the snapshot has there what the store has now.
record IsTracked (first : Store) (ws : List Write) (s : Stores) : Type 0 where
  found : (snapshot : ℤ) (key : List ℕ) (bytes : IsBytes key) → written_above snapshot key ws ≡ false
      → at_snapshot snapshot first s.after key bytes ≡ s.as_run key bytes

-- if no write that holds the key is above the snapshot, no range written at a version above it holds the key
none_written : (snapshot version : ℤ) (key : List ℕ) (ranges : List Range) → int_le version snapshot ≡ false
    → written_above snapshot key (at_version version ranges) ≡ false → in_ranges ranges key ≡ false
none_written snapshot version key [] high h = refl
none_written snapshot version key (range ∷ ranges) high h =
    elim (holds range key) as (λ b. ((b && not (int_le version snapshot))
    || written_above snapshot key (at_version version ranges)) ≡ false → (b || in_ranges ranges key) ≡ false) [
      | true ↦ λ k. let l = rw high at k in cc
      | false ↦ λ k. none_written snapshot version key ranges high k
    ] h

-- after one more batch, as much is known
batch_tracked : (first : Store) (plan : ℕ → Plan) (ws : List Write) (p : Processed) (s : Stores)
    → AllKeep plan 0 p.batch.txns p.reply.entries → IsTracked first ws s
    → IsTracked first (ws ++ writes_of p.batch p.reply) (maybe_batch first (Some p) plan s)
batch_tracked first plan ws p s keep tracked =
    let ts = p.batch.txns in
    let es = p.reply.entries in
    let ran = run_txns first plan 0 ts es s in
    let version = p.batch.version in
    record {
      found = λ snapshot key bytes low.
          let at_key = λ (store : Store). store key bytes in
          let parts = sym (written_above-append snapshot key ws (writes_of p.batch p.reply)) ∙ low in
          let before = written_above snapshot key ws in
          let here = written_above snapshot key (writes_of p.batch p.reply) in
          elim (int_le version snapshot) as (λ b. int_le version snapshot ≡ b
          → at_snapshot snapshot first (ran.after ++ (version, ran.as_run) ∷ []) key bytes ≡ ran.as_run key bytes) [
            | true ↦ λ e. ap at_key (at_snapshot-low snapshot first ran.after version ran.as_run e)
            | false ↦ λ e. ap at_key (at_snapshot-high snapshot first ran.after version ran.as_run e)
                ∙ ap (λ after. at_snapshot snapshot first after key bytes) (run_txns-after first plan 0 ts es s)
                ∙ tracked.found snapshot key bytes (none_of_first before here parts)
                ∙ sym (run_txns-keeps first plan 0 ts es s keep key bytes
                (none_written snapshot version key (committed_ranges ts es) e (none_of_second before here parts)))
          ] refl;
    }

module _ (first : Store) (plans : Plans) (ps : List Processed) (keep : AllKeepToWrites ps plans) where
  -- the plans of a batch's committed transactions keep to their write ranges
  batch_keeps : (i : ℕ) (p : Processed) → slice_get ps i ≡ Some p
      → AllKeep (plans i) 0 p.batch.txns p.reply.entries
  batch_keeps i p at l t e is_txn is_entry verdict =
      let index : l ≡ 0 + l = omega arith in
      let c : IsCommitted ps i l p t = record {
        batch = at;
        txn = is_txn;
        verdict = some_at (λ (e : Entry). e.verdict ≡ Committed) (slice_get p.reply.entries l) e is_entry verdict;
      } in
      subst (λ n. KeepsToWrites t (plans i n)) index (keep i l p t c)

  -- and those of its first transactions
  first_keep : (i : ℕ) (p : Processed) → slice_get ps i ≡ Some p → (j : ℕ)
      → AllKeep (plans i) 0 (take j p.batch.txns) (take j p.reply.entries)
  first_keep i p at j l t e is_txn is_entry verdict =
      batch_keeps i p at l t e (from_take p.batch.txns j l t is_txn).1 (from_take p.reply.entries j l e is_entry).1
      verdict

  -- as much is known after one more batch, if there is one
  maybe_batch_tracked : (i : ℕ) (o : Option Processed) → slice_get ps i ≡ o
      → IsTracked first (writes (take i ps)) (stores_after first plans (take i ps))
      → IsTracked first (writes (take i ps) ++ maybe_writes o)
      (maybe_batch first o (plans i) (stores_after first plans (take i ps)))
  maybe_batch_tracked i None at tracked = rw append-nil tracked
  maybe_batch_tracked i (Some p) at tracked =
      batch_tracked first (plans i) (writes (take i ps)) p (stores_after first plans (take i ps)) (batch_keeps i p at)
      tracked

  -- so it is known after any number of batches
  tracked_after : (i : ℕ) → IsTracked first (writes (take i ps)) (stores_after first plans (take i ps))
  tracked_after zero = record { found = λ snapshot key bytes low. refl }
  tracked_after (suc i) =
      let index : 0 + i ≡ i = omega arith in
      subst (λ ws. IsTracked first ws (stores_after first plans (take (suc i) ps))) (sym (writes-suc ps i))
      (subst (λ s. IsTracked first (writes (take i ps) ++ maybe_writes (slice_get ps i)) s)
      (sym (run_batches-suc first plans 0 ps i (start first)
      ∙ ap (λ n. maybe_batch first (slice_get ps i) (plans n) (stores_after first plans (take i ps))) index))
      (maybe_batch_tracked i (slice_get ps i) refl (tracked_after i)))

  module _ (current : Current ps) where
    -- a committed transaction finds at its snapshot what it finds at its place, at each key that it declares to read
    found_again : (i j : ℕ) (p : Processed) (t : Txn) → IsCommitted ps i j p t
        → ReadsAreCurrent first plans ps i j p t
    found_again i j p t c key bytes read =
        let a = Any-from_list_any (λ range. holds range key) t.reads read in
        let ws = writes (take i ps) in
        let written = earlier p.batch p.reply j in
        let s = stores_after first plans (take i ps) in
        let ts = take j p.batch.txns in
        let es = take j p.reply.entries in
        let known = current i j p t c a.1 (a.0, a.2, a.3) key bytes a.4 in
        let low = low_from_current t.snapshot p.batch.version key ws written known in
        let none = none_from_current t.snapshot p.batch.version key ws written known in
        ap (λ after. at_snapshot t.snapshot first after key bytes) (run_txns-after first (plans i) 0 ts es s)
        ∙ (tracked_after i).found t.snapshot key bytes low
        ∙ sym (run_txns-keeps first (plans i) 0 ts es s (first_keep i p c.batch j) key bytes none)

    -- so it may be run there
    isolated_one : (i j : ℕ) (p : Processed) (t : Txn) → IsCommitted ps i j p t
        → IsIsolated first plans ps i j p t
    isolated_one i j p t c =
        let reads = found_again i j p t c in
        record { reads = reads; place = λ declared. declared (place_store first plans ps i j p) reads }

-- if reads are current, each committed transaction may be run at its place
pub current_isolated : (ps : List Processed) → Current ps → EachIsIsolated ps
current_isolated ps current first plans keep = isolated_one first plans ps keep current
