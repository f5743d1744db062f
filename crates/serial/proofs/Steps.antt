-- Running one more transaction, or one more batch.
use Rattle.std.proofs.Common.{
  ◌≡◌,
  ℕ,
  zero,
  suc,
  ◌+◌,
  ◌<◌,
  Bool,
  true,
  false,
  ◌||◌,
  List,
  [],
  ◌∷◌,
  ◌++◌,
  length,
  take,
  ℤ,
  int_le,
  if◌then◌else◌,
  refl,
  sym,
  ◌∙◌,
  ap,
  subst,
  append-nil,
  append_assoc,
  arith,
}
use Rattle.std.specs.Prelude.{Option, Some, None, slice_get}
use Rattle.std.proofs.lemmas.List.Folds.{list_any-append}
use Rattle.keyspace.specs.declared.txn.Txn.{Txn}
use Rattle.keyspace.specs.declared.reply.Verdict.{Verdict}
use Rattle.keyspace.specs.declared.reply.Verdict.TheVariants.{Conflict, TooOld, Committed}
use Rattle.keyspace.specs.declared.reply.Entry.{Entry}
use Rattle.keyspace.specs.Processed.{Processed}
use Rattle.keyspace.specs.Writes.{Write, counted_ranges, committed_ranges, writes, writes_of}
use Rattle.keys.specs.Key.{IsBytes}
use Rattle.serial.specs.Commits.{holds}
use Rattle.serial.specs.Stores.{
  in_ranges,
  Store,
  Plan,
  KeepsToWrites,
  Plans,
  Stores,
  at_snapshot,
  run_txn,
  run_txns,
  with_store_noted,
  run_batches,
}

-- an element of the first of a list is in the list, at the same index, which is below their number
pub from_take : {X : Type 0} (xs : List X) (n k : ℕ) (x : X) → slice_get (take n xs) k ≡ Some x
    → (k < n) × (slice_get xs k ≡ Some x)
from_take [] zero k x h = let never : ⊥ = cc in absurd never
from_take [] (suc n) k x h = let never : ⊥ = cc in absurd never
from_take (y ∷ xs) zero k x h = let never : ⊥ = cc in absurd never
from_take (y ∷ xs) (suc n) zero x h = (omega arith, h)
from_take (y ∷ xs) (suc n) (suc k) x h =
    let more = from_take xs n k x h in
    let below = more.0 in
    (omega (arith, below), more.1)

-- what a transaction with its entry does, if there are both
abbrev pub maybe_txn : Store → Option Txn → Option Entry → Plan → Stores → Stores
maybe_txn first None e plan s = s
maybe_txn first (Some t) None plan s = s
maybe_txn first (Some t) (Some e) plan s = run_txn first t e.verdict plan s

-- what a batch does, if there is one
abbrev pub maybe_batch : Store → Option Processed → (ℕ → Plan) → Stores → Stores
maybe_batch first None plan s = s
maybe_batch first (Some p) plan s =
    with_store_noted p.batch.version (run_txns first plan 0 p.batch.txns p.reply.entries s)

-- and the writes that it commits
abbrev pub maybe_writes : Option Processed → List Write
maybe_writes None = []
maybe_writes (Some p) = writes_of p.batch p.reply

-- running one more transaction is running those before it, and then the one
pub run_txns-suc : (first : Store) (plan : ℕ → Plan) (k : ℕ) (ts : List Txn) (es : List Entry) (j : ℕ)
    (s : Stores)
    → run_txns first plan k (take (suc j) ts) (take (suc j) es) s
    ≡ maybe_txn first (slice_get ts j) (slice_get es j) (plan (k + j))
    (run_txns first plan k (take j ts) (take j es) s)
run_txns-suc first plan k [] es zero s = refl
run_txns-suc first plan k [] es (suc j) s = refl
run_txns-suc first plan k (t ∷ ts) [] zero s = refl
run_txns-suc first plan k (t ∷ ts) [] (suc j) s =
    elim (slice_get ts j) as (λ o. s ≡ maybe_txn first o None (plan (k + suc j)) s) [
      | None ↦ refl
      | Some u ↦ refl
    ]
run_txns-suc first plan k (t ∷ ts) (e ∷ es) zero s =
    let at : k ≡ k + 0 = omega arith in ap (λ n. run_txn first t e.verdict (plan n) s) at
run_txns-suc first plan k (t ∷ ts) (e ∷ es) (suc j) s =
    let next = run_txn first t e.verdict (plan k) s in
    let at : (k + 1) + j ≡ k + suc j = omega arith in
    run_txns-suc first plan (k + 1) ts es j next
    ∙ ap (λ n. maybe_txn first (slice_get ts j) (slice_get es j) (plan n)
    (run_txns first plan (k + 1) (take j ts) (take j es) next)) at

-- running as many transactions as there are is running all
pub run_txns-entire : (first : Store) (plan : ℕ → Plan) (k : ℕ) (ts : List Txn) (es : List Entry)
    (s : Stores)
    → run_txns first plan k ts es s ≡ run_txns first plan k (take (length ts) ts) (take (length ts) es) s
run_txns-entire first plan k [] es s = refl
run_txns-entire first plan k (t ∷ ts) [] s = refl
run_txns-entire first plan k (t ∷ ts) (e ∷ es) s =
    run_txns-entire first plan (k + 1) ts es (run_txn first t e.verdict (plan k) s)

-- running one more batch is running those before it, and then the one
pub run_batches-suc : (first : Store) (plans : Plans) (k : ℕ) (ps : List Processed) (i : ℕ) (s : Stores)
    → run_batches first plans k (take (suc i) ps) s
    ≡ maybe_batch first (slice_get ps i) (plans (k + i)) (run_batches first plans k (take i ps) s)
run_batches-suc first plans k [] zero s = refl
run_batches-suc first plans k [] (suc i) s = refl
run_batches-suc first plans k (p ∷ ps) zero s =
    let at : k ≡ k + 0 = omega arith in ap (λ n. maybe_batch first (Some p) (plans n) s) at
run_batches-suc first plans k (p ∷ ps) (suc i) s =
    let next = maybe_batch first (Some p) (plans k) s in
    let at : (k + 1) + i ≡ k + suc i = omega arith in
    run_batches-suc first plans (k + 1) ps i next
    ∙ ap (λ n. maybe_batch first (slice_get ps i) (plans n)
    (run_batches first plans (k + 1) (take i ps) next)) at

-- the writes of one more batch come after those of the batches before it
pub writes-suc : (ps : List Processed) (i : ℕ)
    → writes (take (suc i) ps) ≡ writes (take i ps) ++ maybe_writes (slice_get ps i)
writes-suc [] zero = refl
writes-suc [] (suc i) = refl
writes-suc (p ∷ ps) zero = append-nil (writes_of p.batch p.reply)
writes-suc (p ∷ ps) (suc i) =
    ap (λ ws. writes_of p.batch p.reply ++ ws) (writes-suc ps i)
    ∙ sym (append_assoc (writes_of p.batch p.reply) (writes (take i ps)) (maybe_writes (slice_get ps i)))

-- a transaction leaves the stores after earlier batches as they are
run_txn-after : (first : Store) (t : Txn) (verdict : Verdict) (plan : Plan) (s : Stores)
    → (run_txn first t verdict plan s).after ≡ s.after
run_txn-after first t Committed plan s = refl
run_txn-after first t Conflict plan s = refl
run_txn-after first t TooOld plan s = refl

-- and so do many
pub run_txns-after : (first : Store) (plan : ℕ → Plan) (k : ℕ) (ts : List Txn) (es : List Entry)
    (s : Stores) → (run_txns first plan k ts es s).after ≡ s.after
run_txns-after first plan k [] es s = refl
run_txns-after first plan k (t ∷ ts) [] s = refl
run_txns-after first plan k (t ∷ ts) (e ∷ es) s =
    run_txns-after first plan (k + 1) ts es (run_txn first t e.verdict (plan k) s)
    ∙ run_txn-after first t e.verdict (plan k) s

-- a transaction that keeps to its write ranges changes the store at the keys of those that count, and at no other
run_txn-keeps : (first : Store) (t : Txn) (verdict : Verdict) (plan : Plan) (s : Stores)
    → (verdict ≡ Committed → KeepsToWrites t plan) → (key : List ℕ) (bytes : IsBytes key)
    → in_ranges (counted_ranges verdict t.writes) key ≡ false
    → (run_txn first t verdict plan s).as_run key bytes ≡ s.as_run key bytes
run_txn-keeps first t Committed plan s keep key bytes h =
    keep refl (at_snapshot t.snapshot first s.after) s.as_run key bytes h
run_txn-keeps first t Conflict plan s keep key bytes h = refl
run_txn-keeps first t TooOld plan s keep key bytes h = refl

-- the plans of committed transactions, from index k on, keep to their write ranges
abbrev pub AllKeep : (ℕ → Plan) → ℕ → List Txn → List Entry → Type 0
AllKeep plan k ts es =
    (l : ℕ) (t : Txn) (e : Entry) → slice_get ts l ≡ Some t → slice_get es l ≡ Some e → e.verdict ≡ Committed
    → KeepsToWrites t (plan (k + l))

-- if none of two parts passes, none of the first does
pub none_of_first : (a b : Bool) → (a || b) ≡ false → a ≡ false
none_of_first true b h = cc
none_of_first false b h = refl

-- and none of the second
pub none_of_second : (a b : Bool) → (a || b) ≡ false → b ≡ false
none_of_second true b h = cc
none_of_second false b h = h

-- many such transactions change the store at the keys of their committed writes, and at no other
pub run_txns-keeps : (first : Store) (plan : ℕ → Plan) (k : ℕ) (ts : List Txn) (es : List Entry) (s : Stores)
    → AllKeep plan k ts es → (key : List ℕ) (bytes : IsBytes key) → in_ranges (committed_ranges ts es) key ≡ false
    → (run_txns first plan k ts es s).as_run key bytes ≡ s.as_run key bytes
run_txns-keeps first plan k [] es s keep key bytes h = refl
run_txns-keeps first plan k (t ∷ ts) [] s keep key bytes h = refl
run_txns-keeps first plan k (t ∷ ts) (e ∷ es) s keep key bytes h =
    let own = counted_ranges e.verdict t.writes in
    let others = committed_ranges ts es in
    let both = sym (list_any-append (λ range. holds range key) own others) ∙ h in
    let here = none_of_first (in_ranges own key) (in_ranges others key) both in
    let later = none_of_second (in_ranges own key) (in_ranges others key) both in
    let index : k + 0 ≡ k = omega arith in
    let own_keeps = λ (v : e.verdict ≡ Committed).
    subst (λ n. KeepsToWrites t (plan n)) index (keep 0 t e refl refl v) in
    let others_keep : AllKeep plan (k + 1) ts es = λ l u d is_txn is_entry v.
    let next : k + suc l ≡ (k + 1) + l = omega arith in
    subst (λ n. KeepsToWrites u (plan n)) next (keep (suc l) u d is_txn is_entry v) in
    run_txns-keeps first plan (k + 1) ts es (run_txn first t e.verdict (plan k) s) others_keep key bytes later
    ∙ run_txn-keeps first t e.verdict (plan k) s own_keeps key bytes here

-- the last store with a version at or below the snapshot, after one more that has such a version
pub at_snapshot-low : (snapshot : ℤ) (first : Store) (after : List (ℤ × Store)) (version : ℤ) (store : Store)
    → int_le version snapshot ≡ true → at_snapshot snapshot first (after ++ (version, store) ∷ []) ≡ store
at_snapshot-low snapshot first [] version store h = rw h refl
at_snapshot-low snapshot first (a ∷ after) version store h =
    at_snapshot-low snapshot (if int_le a.0 snapshot then a.1 else first) after version store h

-- and after one more that doesn't
pub at_snapshot-high : (snapshot : ℤ) (first : Store) (after : List (ℤ × Store)) (version : ℤ) (store : Store)
    → int_le version snapshot ≡ false
    → at_snapshot snapshot first (after ++ (version, store) ∷ []) ≡ at_snapshot snapshot first after
at_snapshot-high snapshot first [] version store h = rw h refl
at_snapshot-high snapshot first (a ∷ after) version store h =
    at_snapshot-high snapshot (if int_le a.0 snapshot then a.1 else first) after version store h
