-- What a database keeps, what a transaction does to it, and two ways to run the committed transactions of a list of processed
-- batches: as they were run, and one at a time. The definitions are this project's own.
use Rattle.std.specs.Prelude.{
  ◌≡◌,
  ℕ,
  ◌+◌,
  ℤ,
  int_le,
  Bool,
  false,
  if◌then◌else◌,
  IsTrue,
  List,
  [],
  ◌∷◌,
  ◌++◌,
  take,
  Option,
}
use Rattle.std.specs.List.{list_any}
use Rattle.keys.specs.declared.range.Range.{Range}
use Rattle.keyspace.specs.declared.txn.Txn.{Txn}
use Rattle.keyspace.specs.declared.reply.Verdict.{Verdict}
use Rattle.keyspace.specs.declared.reply.Verdict.TheVariants.{Conflict, TooOld, Committed}
use Rattle.keyspace.specs.declared.reply.Entry.{Entry}
use Rattle.keys.specs.Key.{IsBytes}
use Rattle.keyspace.specs.Processed.{Processed}
use Rattle.serial.specs.Commits.{IsCommitted, holds}

-- what each key has: a value, which is a byte string, or none. Keys are byte strings.
abbrev pub Store : Type 0
Store = (key : List ℕ) → IsBytes key → Option (List ℕ)

-- one of the ranges holds the key
abbrev pub in_ranges : List Range → List ℕ → Bool
in_ranges ranges key = list_any (λ range. holds range key) ranges

-- the stores have the same at every key of the ranges
abbrev pub SameIn : List Range → Store → Store → Type 0
SameIn ranges one other =
    (key : List ℕ) (bytes : IsBytes key) → IsTrue (in_ranges ranges key) → one key bytes ≡ other key bytes

-- What a transaction does: the store that it leaves, of the store that it has read and the store that it changes. An atomic
-- addition looks at the second store, a look-up in an index at the first, a versionstamp at neither.
abbrev pub Plan : Type 0
Plan = Store → Store → Store

-- the plan changes no key outside the transaction's write ranges
abbrev pub KeepsToWrites : Txn → Plan → Type 0
KeepsToWrites t plan =
    (read changed : Store) (key : List ℕ) (bytes : IsBytes key) → in_ranges t.writes key ≡ false
    → plan read changed key bytes ≡ changed key bytes

-- the plan of transaction j of batch i, which matters if it was committed
abbrev pub Plans : Type 0
Plans = ℕ → ℕ → Plan

-- the plan of each committed transaction keeps to its write ranges
abbrev pub AllKeepToWrites : List Processed → Plans → Type 0
AllKeepToWrites ps plans =
    (i j : ℕ) (p : Processed) (t : Txn) → IsCommitted ps i j p t → KeepsToWrites t (plans i j)

-- Two ways to run the committed transactions, side by side.

pub record Stores : Type 0 where
  -- as the transactions were run
  pub as_run : Store
  -- the store, as run, after each batch, with the batch's version, in order
  pub after : List (ℤ × Store)
  -- the same transactions one at a time, in the order of commit
  pub serially : Store

abbrev pub start : Store → Stores
start first = record { as_run = first; after = []; serially = first }

-- the store after the last of the batches whose version is at or below the snapshot, or the first store if there is none
abbrev pub at_snapshot : ℤ → Store → List (ℤ × Store) → Store
at_snapshot snapshot first [] = first
at_snapshot snapshot first (a ∷ after) = at_snapshot snapshot (if int_le a.0 snapshot then a.1 else first) after

-- A committed transaction. As run, its plan has read the store at its snapshot, and changes the store that the commits before it
-- left. Run one at a time, it reads and changes the store that the one before it left.
abbrev pub commit : Store → Txn → Plan → Stores → Stores
commit first t plan s = record s {
  as_run = plan (at_snapshot t.snapshot first s.after) s.as_run;
  serially = plan s.serially s.serially;
}

-- a transaction by its verdict: only a committed one does anything
abbrev pub run_txn : Store → Txn → Verdict → Plan → Stores → Stores
run_txn first t Committed plan s = commit first t plan s
run_txn first t Conflict plan s = s
run_txn first t TooOld plan s = s

-- transactions from index j on, with their entries
abbrev pub run_txns : Store → (ℕ → Plan) → ℕ → List Txn → List Entry → Stores → Stores
run_txns first plan j (t ∷ ts) (e ∷ es) s =
    run_txns first plan (j + 1) ts es (run_txn first t e.verdict (plan j) s)
run_txns first plan j [] es s = s
run_txns first plan j (t ∷ ts) [] s = s

-- the store as it is now, after a batch of this version
abbrev pub with_store_noted : ℤ → Stores → Stores
with_store_noted version s = record s { after = s.after ++ (version, s.as_run) ∷ [] }

-- batches from index i on
abbrev pub run_batches : Store → Plans → ℕ → List Processed → Stores → Stores
run_batches first plans i [] s = s
run_batches first plans i (p ∷ ps) s =
    run_batches first plans (i + 1) ps
    (with_store_noted p.batch.version (run_txns first (plans i) 0 p.batch.txns p.reply.entries s))

-- the stores after all batches
abbrev pub stores_after : Store → Plans → List Processed → Stores
stores_after first plans ps = run_batches first plans 0 ps (start first)

-- the stores before transaction j of batch i, which is p
abbrev pub stores_at : Store → Plans → List Processed → ℕ → ℕ → Processed → Stores
stores_at first plans ps i j p =
    run_txns first (plans i) 0 (take j p.batch.txns) (take j p.reply.entries) (stores_after first plans (take i ps))

-- the store that transaction j of batch i, which is t, has read: that at its snapshot
abbrev pub read_store : Store → Plans → List Processed → ℕ → ℕ → Processed → Txn → Store
read_store first plans ps i j p t = at_snapshot t.snapshot first (stores_at first plans ps i j p).after

-- the store at its place in the commit order: what the commits before it left
abbrev pub place_store : Store → Plans → List Processed → ℕ → ℕ → Processed → Store
place_store first plans ps i j p = (stores_at first plans ps i j p).as_run
