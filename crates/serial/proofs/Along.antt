-- What each committed transaction preserves holds all along the run.
use Rattle.std.proofs.Common.{◌≡◌, ℕ, zero, suc, ◌+◌, List, length, take, ℤ, refl, sym, ◌∙◌, ap, subst, arith}
use Rattle.std.specs.Prelude.{Option, Some, None, slice_get}
use Rattle.keyspace.specs.declared.txn.Txn.{Txn}
use Rattle.keyspace.specs.declared.reply.Verdict.{Verdict}
use Rattle.keyspace.specs.declared.reply.Verdict.TheVariants.{Conflict, TooOld, Committed}
use Rattle.keyspace.specs.declared.reply.Entry.{Entry}
use Rattle.keyspace.specs.Processed.{Processed}
use Rattle.serial.specs.Commits.{IsCommitted}
use Rattle.serial.specs.Stores.{Store, Plan, Plans, Stores, start, commit, with_store_noted, run_txn, stores_after, stores_at}
use Rattle.serial.proofs.Reading.{some_at}
use Rattle.serial.proofs.Steps.{maybe_txn, maybe_batch, run_txns-suc, run_txns-entire, run_batches-suc}

-- it holds after a transaction, if it holds where that is committed
run_txn_holds : (P : Stores → Type 0) (first : Store) (t : Txn) (verdict : Verdict) (plan : Plan) (s : Stores)
    → (verdict ≡ Committed → P (commit first t plan s)) → P s → P (run_txn first t verdict plan s)
run_txn_holds P first t Committed plan s commits holds = commits refl
run_txn_holds P first t Conflict plan s commits holds = holds
run_txn_holds P first t TooOld plan s commits holds = holds

-- the same of a transaction and an entry that may not be there
maybe_txn_holds : (P : Stores → Type 0) (first : Store) (ot : Option Txn) (oe : Option Entry) (plan : Plan) (s : Stores)
    → ((t : Txn) (e : Entry) → ot ≡ Some t → oe ≡ Some e → e.verdict ≡ Committed → P (commit first t plan s))
    → P s → P (maybe_txn first ot oe plan s)
maybe_txn_holds P first None oe plan s commits holds = holds
maybe_txn_holds P first (Some t) None plan s commits holds = holds
maybe_txn_holds P first (Some t) (Some e) plan s commits holds =
    run_txn_holds P first t e.verdict plan s (λ v. commits t e refl refl v) holds

module _ (first : Store) (plans : Plans) (ps : List Processed) (P : Stores → Type 0) (begins : P (start first))
    (commits : (i j : ℕ) (p : Processed) (t : Txn) → IsCommitted ps i j p t → P (stores_at first plans ps i j p)
    → P (commit first t (plans i j) (stores_at first plans ps i j p)))
    (notes : (version : ℤ) (s : Stores) → P s → P (with_store_noted version s)) where
  -- it holds before each transaction of a batch, if it holds before the batch
  holds_in_batch : (i : ℕ) (p : Processed) → slice_get ps i ≡ Some p → P (stores_after first plans (take i ps))
      → (j : ℕ) → P (stores_at first plans ps i j p)
  holds_in_batch i p at holds zero = holds
  holds_in_batch i p at holds (suc j) =
      let s = stores_at first plans ps i j p in
      let ot = slice_get p.batch.txns j in
      let oe = slice_get p.reply.entries j in
      let more = run_txns-suc first (plans i) 0 p.batch.txns p.reply.entries j
      (stores_after first plans (take i ps)) in
      let index : 0 + j ≡ j = omega arith in
      let before = holds_in_batch i p at holds j in
      subst P (sym (more ∙ ap (λ n. maybe_txn first ot oe (plans i n) s) index))
      (maybe_txn_holds P first ot oe (plans i j) s (λ t e is_txn is_entry verdict.
      let c : IsCommitted ps i j p t = record {
        batch = at;
        txn = is_txn;
        verdict = some_at (λ (e : Entry). e.verdict ≡ Committed) oe e is_entry verdict;
      } in
      commits i j p t c before)
      before)

  -- and after one more batch, if there is one
  maybe_batch_holds : (i : ℕ) (o : Option Processed) → slice_get ps i ≡ o → P (stores_after first plans (take i ps))
      → P (maybe_batch first o (plans i) (stores_after first plans (take i ps)))
  maybe_batch_holds i None at holds = holds
  maybe_batch_holds i (Some p) at holds =
      let s = stores_after first plans (take i ps) in
      notes p.batch.version _
      (subst P (sym (run_txns-entire first (plans i) 0 p.batch.txns p.reply.entries s))
      (holds_in_batch i p at holds (length p.batch.txns)))

  -- so it holds after any number of batches
  pub holds_after : (i : ℕ) → P (stores_after first plans (take i ps))
  holds_after zero = begins
  holds_after (suc i) =
      let index : 0 + i ≡ i = omega arith in
      subst P (sym (run_batches-suc first plans 0 ps i (start first)
      ∙ ap (λ n. maybe_batch first (slice_get ps i) (plans n) (stores_after first plans (take i ps))) index))
      (maybe_batch_holds i (slice_get ps i) refl (holds_after i))

  -- and before each of their transactions
  pub holds_at : (i : ℕ) (p : Processed) → slice_get ps i ≡ Some p → (j : ℕ) → P (stores_at first plans ps i j p)
  holds_at i p at j = holds_in_batch i p at (holds_after i) j
