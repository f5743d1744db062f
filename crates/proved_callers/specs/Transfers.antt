-- Two accounts of a database, and transactions that move money between them. This project's own.
use Rattle.std.specs.Prelude.{◌≡◌, ℕ, ℤ, ◌+ℤ◌, ◌-ℤ◌, false, IsTrue, if◌then◌else◌, bytes_eq, List, take, Option, None, Some, slice_get}
use Rattle.keyspace.specs.declared.txn.Txn.{Txn}
use Rattle.keyspace.specs.declared.batch.Batch.{Batch}
use Rattle.keys.specs.Key.{IsBytes}
use Rattle.keyspace.specs.Processed.{Processed}
use Rattle.keyspace.specs.Run.{Step, run}
use Rattle.serial.specs.Stores.{in_ranges, Store, Plan, Plans, stores_after}

-- The keys of two accounts, and how balances are written at them.
pub record Accounts : Type 0 where
  pub one : List ℕ
  pub other : List ℕ
  pub one_bytes : IsBytes one
  pub other_bytes : IsBytes other
  pub apart : bytes_eq other one ≡ false
  pub balance : Option (List ℕ) → ℤ
  pub written : ℤ → Option (List ℕ)
  pub reads_back : (n : ℤ) → balance (written n) ≡ n

abbrev pub balance_of_one : Accounts → Store → ℤ
balance_of_one a store = a.balance (store a.one a.one_bytes)

abbrev pub balance_of_other : Accounts → Store → ℤ
balance_of_other a store = a.balance (store a.other a.other_bytes)

-- what both accounts have
abbrev pub sum_of : Accounts → Store → ℤ
sum_of a store = balance_of_one a store +ℤ balance_of_other a store

-- Moves an amount from the one account to the other. How much may depend on what it finds there.
abbrev pub transfer : Accounts → (ℤ → ℤ → ℤ) → Plan
transfer a amount read changed key bytes =
    let one = balance_of_one a read in
    let other = balance_of_other a read in
    if bytes_eq key a.one then a.written (one -ℤ amount one other)
    else (if bytes_eq key a.other then a.written (other +ℤ amount one other) else changed key bytes)

-- the transaction declares both accounts, to read and to write
pub record DeclaresBoth (a : Accounts) (t : Txn) : Type 0 where
  pub reads_one : IsTrue (in_ranges t.reads a.one)
  pub reads_other : IsTrue (in_ranges t.reads a.other)
  pub writes_one : IsTrue (in_ranges t.writes a.one)
  pub writes_other : IsTrue (in_ranges t.writes a.other)

abbrev pub AllDeclareBoth : Accounts → Batch → Type 0
AllDeclareBoth a batch = (j : ℕ) (t : Txn) → slice_get batch.txns j ≡ Some t → DeclaresBoth a t

abbrev pub proxy_of : Option Processed → ℕ
proxy_of None = 0
proxy_of (Some p) = p.proxy

-- transaction j of a proxy's batch is a transfer of some amount
abbrev pub transfers : Accounts → (ℕ → ℕ → ℤ → ℤ → ℤ) → List Processed → Plans
transfers a amounts ps i j = transfer a (amounts (proxy_of (slice_get ps i)) j)

-- If every transaction of both batches is a transfer between two accounts, their sum stays, whatever was committed, in whichever order.
abbrev pub SumStays : ℤ → List Step → Batch → Batch → Type 0
SumStays window log first second =
    (a : Accounts) → AllDeclareBoth a first → AllDeclareBoth a second
    → (amounts : ℕ → ℕ → ℤ → ℤ → ℤ) (store : Store) (batches : ℕ)
    → sum_of a (stores_after store (transfers a amounts (run window log).processed) (take batches (run window log).processed)).as_run
    ≡ sum_of a store
