-- What a database needs of its resolver, of each committed transaction and of all of them: reads are current, each transaction may
-- be run at its place in the commit order, and running them one at a time leaves the same stores. The claim is that of the
-- FoundationDB paper (SIGMOD 2021), which argues it in words; the definitions are this project's own.
use Rattle.std.specs.Prelude.{
  ◌≡◌,
  ℕ,
  ◌+◌,
  ◌<◌,
  ℤ,
  ◌<ℤ◌,
  ◌≤ℤ◌,
  Bool,
  if◌then◌else◌,
  IsTrue,
  List,
  ◌++◌,
  take,
  drop,
  Contains,
  All,
}
use Rattle.keys.specs.declared.range.Range.{Range}
use Rattle.keyspace.specs.declared.txn.Txn.{Txn}
use Rattle.keys.specs.Key.{IsBytes}
use Rattle.keyspace.specs.Processed.{Processed}
use Rattle.keyspace.specs.Writes.{Write, at_version, writes}
use Rattle.keyspace.specs.Chain.{IsChain}
use Rattle.serial.specs.Commits.{IsCommitted, before, holds, writes_holding, up_to}
use Rattle.serial.specs.Stores.{
  Store,
  in_ranges,
  SameIn,
  Plan,
  Plans,
  AllKeepToWrites,
  at_snapshot,
  stores_after,
  stores_at,
  read_store,
  place_store,
}

-- One committed transaction, whatever the others read.

-- What it has read is current: at each key of its read ranges, the store at its snapshot and the store at its place have the same.
abbrev pub ReadsAreCurrent : Store → Plans → List Processed → ℕ → ℕ → Processed → Txn → Type 0
ReadsAreCurrent first plans ps i j p t =
    SameIn t.reads (read_store first plans ps i j p t) (place_store first plans ps i j p)

-- The plan looks at no more than the read ranges declare: it leaves the same store for every store that has the same there as the one
-- that it has read.
abbrev pub ReadsOnlyDeclared : Txn → Plan → Store → Store → Type 0
ReadsOnlyDeclared t plan read changed =
    (other : Store) → SameIn t.reads read other → plan read changed ≡ plan other changed

-- it leaves the same store if it reads the store at its place instead of the store at its snapshot
abbrev pub RunsAtItsPlace : Store → Plans → List Processed → ℕ → ℕ → Processed → Txn → Type 0
RunsAtItsPlace first plans ps i j p t =
    ReadsOnlyDeclared t (plans i j) (read_store first plans ps i j p t) (place_store first plans ps i j p)
    → plans i j (read_store first plans ps i j p t) (place_store first plans ps i j p)
    ≡ plans i j (place_store first plans ps i j p) (place_store first plans ps i j p)

-- Each committed transaction alone: the plans of the others keep to their write ranges, and that is all that is asked of them.
pub record IsIsolated (first : Store) (plans : Plans) (ps : List Processed) (i j : ℕ) (p : Processed) (t : Txn)
    : Type 0 where
  pub reads : ReadsAreCurrent first plans ps i j p t
  pub place : RunsAtItsPlace first plans ps i j p t

abbrev pub EachIsIsolated : List Processed → Type 0
EachIsIsolated ps =
    (first : Store) (plans : Plans) → AllKeepToWrites ps plans
    → (i j : ℕ) (p : Processed) (t : Txn) → IsCommitted ps i j p t → IsIsolated first plans ps i j p t

-- All committed transactions.

-- each committed transaction looks at no more than its read ranges declare
abbrev pub AllReadOnlyDeclared : Store → Plans → List Processed → Type 0
AllReadOnlyDeclared first plans ps =
    (i j : ℕ) (p : Processed) (t : Txn) → IsCommitted ps i j p t
    → ReadsOnlyDeclared t (plans i j) (read_store first plans ps i j p t) (place_store first plans ps i j p)

-- of transaction j of batch i, which is t, run one at a time
pub record IsSerial (first : Store) (plans : Plans) (ps : List Processed) (i j : ℕ) (p : Processed) (t : Txn)
    : Type 0 where
  -- at the keys of its read ranges, it finds what it has read at its snapshot
  pub reads : SameIn t.reads (read_store first plans ps i j p t) (stores_at first plans ps i j p).serially
  -- it leaves the store that was left as it was run
  pub store : (stores_at first plans ps i (j + 1) p).as_run ≡ (stores_at first plans ps i (j + 1) p).serially

-- for all plans and first stores, every committed transaction
abbrev pub Serializable : List Processed → Type 0
Serializable ps =
    (first : Store) (plans : Plans) → AllKeepToWrites ps plans → AllReadOnlyDeclared first plans ps
    → (i j : ℕ) (p : Processed) (t : Txn) → IsCommitted ps i j p t → IsSerial first plans ps i j p t

-- run alone on a store for which the invariant holds, the plan leaves a store for which it holds
abbrev pub Preserves : (Store → Bool) → Plan → Type 0
Preserves invariant plan = (store : Store) → IsTrue (invariant store) → IsTrue (invariant (plan store store))

-- An invariant that holds at first, and that each committed transaction preserves alone, holds after any number of batches, as the
-- transactions were run.
abbrev pub InvariantsHold : List Processed → Type 0
InvariantsHold ps =
    (first : Store) (plans : Plans) → AllKeepToWrites ps plans → AllReadOnlyDeclared first plans ps
    → (invariant : Store → Bool)
    → ((i j : ℕ) (p : Processed) (t : Txn) → IsCommitted ps i j p t → Preserves invariant (plans i j))
    → IsTrue (invariant first)
    → (batches : ℕ) → IsTrue (invariant (stores_after first plans (take batches ps)).as_run)

-- Transactions that are functions of their read ranges.

-- what a transaction writes depends on the keys of its read ranges alone
pub record IsEffect (t : Txn) (effect : Store → Store) : Type 0 where
  pub reads : (one other : Store) → SameIn t.reads one other → SameIn t.writes (effect one) (effect other)

-- what the one store has at the keys of the ranges, and elsewhere what the other has
abbrev pub put : List Range → Store → Store → Store
put ranges one other key bytes = if in_ranges ranges key then one key bytes else other key bytes

-- the plan that writes, at the keys of the write ranges, the effect's values for the store that was read
abbrev pub plan_of : Txn → (Store → Store) → Plan
plan_of t effect read changed = put t.writes (effect read) changed

-- for all effects and first stores, every committed transaction
abbrev pub EffectsAreSerializable : List Processed → Type 0
EffectsAreSerializable ps =
    (first : Store) (plans : Plans) (effects : ℕ → ℕ → Store → Store)
    → ((i j : ℕ) (p : Processed) (t : Txn) → IsCommitted ps i j p t
    → IsEffect t (effects i j) × (plans i j ≡ plan_of t (effects i j)))
    → (i j : ℕ) (p : Processed) (t : Txn) → IsCommitted ps i j p t → IsSerial first plans ps i j p t

-- Transactions that only read, which no resolver sees.

-- A snapshot is a place in the commit order: a reader finds there the values that the batches up to the last one with a version at or
-- below it have left.
pub record IsPlace (first : Store) (plans : Plans) (ps : List Processed) (snapshot : ℤ) : Type 0 where
  pub batches : ℕ
  pub included : All (λ p. p.batch.version ≤ℤ snapshot) (take batches ps)
  pub later : All (λ p. snapshot <ℤ p.batch.version) (drop batches ps)
  pub store :
      at_snapshot snapshot first (stores_after first plans ps).after ≡ (stores_after first plans (take batches ps)).as_run
  -- also as the transactions are run one at a time
  pub serially :
      AllKeepToWrites ps plans → AllReadOnlyDeclared first plans ps
      → at_snapshot snapshot first (stores_after first plans ps).after ≡ (stores_after first plans (take batches ps)).serially

abbrev pub SnapshotsArePlaces : List Processed → Type 0
SnapshotsArePlaces ps = (first : Store) (plans : Plans) (snapshot : ℤ) → IsPlace first plans ps snapshot

-- Real time.

-- Transaction j of batch i, which is t, comes after transaction l of batch k, which is u.
pub record Follows (ps : List Processed) (k l : ℕ) (q : Processed) (u : Txn) (i j : ℕ) (p : Processed) (t : Txn)
    : Type 0 where
  -- in the commit order
  pub later : k < i
  -- At each key of its read ranges, the writes that its snapshot includes are those before u, u's own, and then later ones. So
  -- where u wrote, it reads the value of u or of a later write.
  pub reads :
      (range : Range) → Contains t.reads range → (key : List ℕ) → IsBytes key → IsTrue (holds range key)
      → (rest : List Write) × (writes_holding key (up_to t.snapshot (writes (take i ps)))
      ≡ writes_holding key (before ps k q l) ++ (writes_holding key (at_version q.batch.version u.writes) ++ rest))

-- A committed transaction that has read below the version of its batch, and at or above the version of another one, comes after it.
-- Nothing is asked of the snapshots of others.
abbrev pub RealTime : List Processed → Type 0
RealTime ps =
    (k l : ℕ) (q : Processed) (u : Txn) → IsCommitted ps k l q u
    → (i j : ℕ) (p : Processed) (t : Txn) → IsCommitted ps i j p t
    → t.snapshot <ℤ p.batch.version → q.batch.version ≤ℤ t.snapshot → Follows ps k l q u i j p t

-- All of it.

-- What the verdicts of this list give a database.
pub record IsSerializable (ps : List Processed) : Type 0 where
  -- each committed transaction has read current values, and may be run at its place in the commit order, whatever the others read
  pub isolated : EachIsIsolated ps
  -- if none looks at more than it declares, they may be run one at a time in that order: each reads what it has read and leaves what it
  -- has left
  pub serial : Serializable ps
  -- so invariants hold that each of them preserves
  pub invariants : InvariantsHold ps
  -- a transaction that only reads is run at its snapshot
  pub snapshots : SnapshotsArePlaces ps
  -- a transaction comes after those that were committed at its snapshot
  pub real_time : RealTime ps

abbrev pub ChainsAreSerializable : Type 0
ChainsAreSerializable = (window : ℤ) (ps : List Processed) → IsChain window ps → IsSerializable ps
