-- Which transactions were committed, in the commit order, and what was written before each. Over any list of processed batches,
-- a chain or not.
use Rattle.std.specs.Prelude.{
  ◌≡◌,
  ℕ,
  ℤ,
  int_le,
  Bool,
  ◌&&◌,
  not,
  IsTrue,
  List,
  ◌++◌,
  take,
  filter,
  Some,
  slice_get,
  IsSomeAnd,
  Contains,
}
use Rattle.keys.specs.declared.range.Range.{Range}
use Rattle.keyspace.specs.declared.txn.Txn.{Txn}
use Rattle.keyspace.specs.declared.reply.Verdict.TheVariants.{Committed}
use Rattle.keys.specs.Key.{IsBytes, is_before}
use Rattle.keyspace.specs.Processed.{Processed}
use Rattle.keyspace.specs.Writes.{Write, at_version, writes, earlier}

-- The commit order: committed transactions by batch, then by index.

-- t is transaction j of batch i, which is p, and it was committed
pub record IsCommitted (ps : List Processed) (i j : ℕ) (p : Processed) (t : Txn) : Type 0 where
  pub batch : slice_get ps i ≡ Some p
  pub txn : slice_get p.batch.txns j ≡ Some t
  pub verdict : IsSomeAnd (slice_get p.reply.entries j) (λ e. e.verdict ≡ Committed)

-- the writes committed before transaction j of batch i, which is p
abbrev pub before : List Processed → ℕ → Processed → ℕ → List Write
before ps i p j = writes (take i ps) ++ at_version p.batch.version (earlier p.batch p.reply j)

-- Current reads.

-- the half-open range holds the key: `Holds`, computed
abbrev pub holds : Range → List ℕ → Bool
holds range key = not (is_before key range.begin) && is_before key range.end

-- the writes that hold the key, in order
abbrev pub writes_holding : List ℕ → List Write → List Write
writes_holding key ws = filter (λ w. holds w.range key) ws

-- the writes with a version at or below the snapshot, in order
abbrev pub up_to : ℤ → List Write → List Write
up_to snapshot ws = filter (λ w. int_le w.version snapshot) ws

-- What each committed transaction has read at its snapshot is what it would read at its place in the commit order: at each
-- key of its read ranges, the writes before it are those that its snapshot includes.
abbrev pub Current : List Processed → Type 0
Current ps =
    (i j : ℕ) (p : Processed) (t : Txn) → IsCommitted ps i j p t
    → (range : Range) → Contains t.reads range → (key : List ℕ) → IsBytes key → IsTrue (holds range key)
    → writes_holding key (before ps i p j) ≡ writes_holding key (up_to t.snapshot (writes (take i ps)))
