-- Transfers keep the sum of two accounts, if their transactions declare both.
use Rattle.std.proofs.Common.{◌≡◌, ℕ, Bool, true, false, cond, List, take, ℤ, refl, sym, ap, subst, ◌∙◌, inl, inr, arith}
use Rattle.std.specs.Prelude.{◌+ℤ◌, ◌-ℤ◌, IsTrue, bytes_eq, Some, slice_get}
use Rattle.std.specs.Ordering.{int_eq}
use Rattle.std.proofs.lemmas.Int.{ints}
use Rattle.std.proofs.lemmas.Bool.{true≢false}
use Rattle.std.proofs.lemmas.Bool.Decides.{Decides-int_eq}
use Rattle.std.proofs.lemmas.Slice.Eq.{bytes_eq-Decides}
use Rattle.keys.specs.declared.range.Range.{Range}
use Rattle.keyspace.specs.declared.txn.Txn.{Txn}
use Rattle.keyspace.specs.declared.batch.Batch.{Batch}
use Rattle.keyspace.specs.Processed.{Processed}
use Rattle.keyspace.specs.Run.{Step, run}
use Rattle.serial.specs.Commits.{IsCommitted}
use Rattle.serial.specs.Stores.{in_ranges, Store, KeepsToWrites, stores_after}
use Rattle.serial.specs.Serial.{ReadsOnlyDeclared}
use Rattle.proved_callers.specs.declared.served_proxies.Served.{Served}
use Rattle.proved_callers.specs.Served.{IsOneOf, AreServed}
use Rattle.proved_callers.specs.Transfers.{
  Accounts,
  balance_of_one,
  balance_of_other,
  sum_of,
  transfer,
  DeclaresBoth,
  AllDeclareBoth,
  proxy_of,
  transfers,
  SumStays,
}

-- a key at which ranges hold nothing isn't one that they hold
not_held : (ranges : List Range) (key held : List ℕ) → IsTrue (in_ranges ranges held) → in_ranges ranges key ≡ false
    → bytes_eq key held ≡ true → ⊥
not_held ranges key held there none same =
    true≢false (sym there ∙ ap (in_ranges ranges) (sym ((bytes_eq-Decides key held).0 same)) ∙ none)

-- a key is itself
itself : (key : List ℕ) → bytes_eq key key ≡ true
itself key = (bytes_eq-Decides key key).1 refl

-- what leaves one number and comes to another leaves their sum
sum_stays : (a b n : ℤ) → (a -ℤ n) +ℤ (b +ℤ n) ≡ a +ℤ b
sum_stays a b n = omega (arith, ints)

module _ (a : Accounts) (amount : ℤ → ℤ → ℤ) where
  transfer_keeps : (t : Txn) → DeclaresBoth a t → KeepsToWrites t (transfer a amount)
  transfer_keeps t declares read changed key bytes none =
      let one = balance_of_one a read in
      let other = balance_of_other a read in
      elim (bytes_eq key a.one) as (λ b. bytes_eq key a.one ≡ b
      → cond b (a.written (one -ℤ amount one other))
      (cond (bytes_eq key a.other) (a.written (other +ℤ amount one other)) (changed key bytes)) ≡ changed key bytes) [
        | true ↦ λ same. absurd (not_held t.writes key a.one declares.writes_one none same)
        | false ↦ λ _. elim (bytes_eq key a.other) as (λ b. bytes_eq key a.other ≡ b
            → cond b (a.written (other +ℤ amount one other)) (changed key bytes) ≡ changed key bytes) [
              | true ↦ λ same. absurd (not_held t.writes key a.other declares.writes_other none same)
              | false ↦ λ _. refl
            ] refl
      ] refl

  transfer_declared : (t : Txn) → DeclaresBoth a t → (read changed : Store)
      → ReadsOnlyDeclared t (transfer a amount) read changed
  transfer_declared t declares read changed others same =
      let put : ℤ → ℤ → Store = λ one other key bytes.
      cond (bytes_eq key a.one) (a.written (one -ℤ amount one other))
      (cond (bytes_eq key a.other) (a.written (other +ℤ amount one other)) (changed key bytes)) in
      ap (λ one. put one (balance_of_other a read)) (ap a.balance (same a.one a.one_bytes declares.reads_one))
      ∙ ap (λ other. put (balance_of_one a others) other) (ap a.balance (same a.other a.other_bytes declares.reads_other))

  transfer_moves : (store : Store) → sum_of a (transfer a amount store store) ≡ sum_of a store
  transfer_moves store =
      let one = balance_of_one a store in
      let other = balance_of_other a store in
      let n = amount one other in
      let paid = a.written (one -ℤ n) in
      let received = a.written (other +ℤ n) in
      let of_one : balance_of_one a (transfer a amount store store) ≡ one -ℤ n =
      ap (λ b. a.balance (cond b paid (cond (bytes_eq a.one a.other) received (store a.one a.one_bytes)))) (itself a.one)
      ∙ a.reads_back (one -ℤ n) in
      let of_other : balance_of_other a (transfer a amount store store) ≡ other +ℤ n =
      ap (λ b. a.balance (cond b paid (cond (bytes_eq a.other a.other) received (store a.other a.other_bytes)))) a.apart
      ∙ ap (λ b. a.balance (cond b received (store a.other a.other_bytes))) (itself a.other)
      ∙ a.reads_back (other +ℤ n) in
      ap (λ x. x +ℤ balance_of_other a (transfer a amount store store)) of_one
      ∙ ap (λ y. (one -ℤ n) +ℤ y) of_other ∙ sum_stays one other n

-- the transaction of an entry is one of the batch that its proxy has sent
declares_both : (a : Accounts) (first second : Batch) → AllDeclareBoth a first → AllDeclareBoth a second
    → (entry : Processed) → IsOneOf first second entry → (j : ℕ) (t : Txn) → slice_get entry.batch.txns j ≡ Some t
    → DeclaresBoth a t
declares_both a first second all_first all_second entry is j t at = elim is [
  | inl own ↦ all_first j t (ap (λ (b : Batch). slice_get b.txns j) (sym own.1) ∙ at)
  | inr own ↦ all_second j t (ap (λ (b : Batch). slice_get b.txns j) (sym own.1) ∙ at)
]

pub transfers_keep : (window : ℤ) (log : List Step) (first second : Batch) (served : Served)
    → AreServed window log first second served → SumStays window log first second
transfers_keep window log first second served are a all_first all_second amounts store batches =
    let ps = (run window log).processed in
    let plans = transfers a amounts ps in
    let total = sum_of a store in
    let is_total : Store → Bool = λ s. int_eq (sum_of a s) total in
    let declares : (i j : ℕ) (p : Processed) (t : Txn) → IsCommitted ps i j p t → DeclaresBoth a t = λ i j p t c.
    declares_both a first second all_first all_second p (are.from_both i p c.batch) j t c.txn in
    (Decides-int_eq (sum_of a (stores_after store plans (take batches ps)).as_run) total).0
    (are.serializable.invariants store plans
    (λ i j p t c. transfer_keeps a (amounts (proxy_of (slice_get ps i)) j) t (declares i j p t c))
    (λ i j p t c. transfer_declared a (amounts (proxy_of (slice_get ps i)) j) t (declares i j p t c) _ _)
    is_total
    (λ i j p t c s before. subst (λ sum. IsTrue (int_eq sum total))
    (sym (transfer_moves a (amounts (proxy_of (slice_get ps i)) j) s)) before)
    ((Decides-int_eq total total).1 refl) batches)
