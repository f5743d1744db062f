-- Several resolvers: the keys are split into shards, and each shard has its own resolver, which judges what the transactions
-- read and write there. A transaction is committed only if every one of them says so.
use Rattle.std.specs.Prelude.{
  ◌≡◌,
  ℕ,
  ℤ,
  Bool,
  true,
  ◌&&◌,
  not,
  IsTrue,
  List,
  [],
  ◌∷◌,
  length,
  Option,
  Some,
  None,
  slice_get,
  IsSomeAnd,
  All,
}
use Rattle.std.specs.List.{AllZip}
use Rattle.keys.specs.declared.range.Range.{Range}
use Rattle.keyspace.specs.declared.txn.Txn.{Txn}
use Rattle.keyspace.specs.declared.reply.Verdict.TheVariants.{Committed}
use Rattle.keyspace.specs.declared.batch.Batch.{Batch}
use Rattle.keys.specs.Key.{IsBytes, is_before, IsBefore}
use Rattle.keyspace.specs.Chain.{IsChain}
use Rattle.keyspace.specs.Processed.{Processed}
use Rattle.serial.specs.Stores.{in_ranges}

-- the keys from the first one on, up to another one or without end
pub record Shard : Type 0 where
  pub from : List ℕ
  pub to : Option (List ℕ)

abbrev pub ends_above : Option (List ℕ) → List ℕ → Bool
ends_above None key = true
ends_above (Some to) key = is_before key to

abbrev pub has_key : Shard → List ℕ → Bool
has_key shard key = not (is_before key shard.from) && ends_above shard.to key

-- the shards that points make of the keys from the first one on
abbrev pub shards_from : List ℕ → List (List ℕ) → List Shard
shards_from from [] = record { from = from; to = None } ∷ []
shards_from from (point ∷ points) = record { from = from; to = Some point } ∷ shards_from point points

-- the shards that points make of all keys
abbrev pub shards : List (List ℕ) → List Shard
shards points = shards_from [] points

-- each split point comes after the one before
abbrev pub IsRising : List ℕ → List (List ℕ) → Type 0
IsRising from [] = Unit {0}
IsRising from (point ∷ points) = IsBefore from point × IsRising point points

-- each key lies in exactly one of the shards
pub record IsInOne (shards : List Shard) (key : List ℕ) : Type 0 where
  pub index : ℕ
  pub there : IsSomeAnd (slice_get shards index) (λ shard. IsTrue (has_key shard key))
  pub alone : (m : ℕ) → IsSomeAnd (slice_get shards m) (λ shard. IsTrue (has_key shard key)) → m ≡ index

abbrev pub OneShardEach : Type 0
OneShardEach = (points : List (List ℕ)) → IsRising [] points → (key : List ℕ) → IsBytes key → IsInOne (shards points) key

-- Of the keys of the shard, both lists of ranges hold the same. Nothing is said of other keys: a proxy may omit ranges that miss the
-- shard, or send ranges uncut.
abbrev pub SameInShard : Shard → List Range → List Range → Type 0
SameInShard shard ranges clips =
    (key : List ℕ) → IsBytes key → IsTrue (has_key shard key) → in_ranges clips key ≡ in_ranges ranges key

-- what a shard has of a transaction: its snapshot, and what it reads and writes in the shard
pub record IsTxnClip (shard : Shard) (t clip : Txn) : Type 0 where
  pub snapshot : clip.snapshot ≡ t.snapshot
  pub reads : SameInShard shard t.reads clip.reads
  pub writes : SameInShard shard t.writes clip.writes

-- and of a batch: its transactions in their places, and its version
pub record IsBatchClip (shard : Shard) (b clip : Batch) : Type 0 where
  pub version : clip.version ≡ b.version
  pub txns : AllZip (IsTxnClip shard) b.txns clip.txns

-- transaction j of batch i was committed by the resolver that processed these
abbrev pub SaysCommitted : ℕ → ℕ → List Processed → Type 0
SaysCommitted i j ps =
    IsSomeAnd (slice_get ps i) (λ p. IsSomeAnd (slice_get p.reply.entries j) (λ e. e.verdict ≡ Committed))

-- What the resolvers of all shards have processed, one list per shard, and what comes of it: the batches as they were sent, each
-- with the verdicts that the clients received.
pub record AreByShards (window : ℤ) (points : List (List ℕ)) (each : List (List Processed)) (ps : List Processed) : Type 0 where
  pub rising : IsRising [] points
  pub one_each : length each ≡ length (shards points)
  pub chains : All (IsChain window) each
  -- each shard processes the batches clipped to it
  pub clips :
      (m : ℕ) (shard : Shard) (own : List Processed) → slice_get (shards points) m ≡ Some shard → slice_get each m ≡ Some own
      → AllZip (λ p c. IsBatchClip shard p.batch c.batch) ps own
  -- A transaction is committed only if every shard says so. A proxy may reject it for other reasons, though every shard has
  -- committed it.
  pub verdicts : (i j : ℕ) → SaysCommitted i j ps → All (SaysCommitted i j) each
