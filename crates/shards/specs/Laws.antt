-- What several resolvers give a database: a chain per shard, of the clipped batches, and the combined replies.
use Rattle.std.specs.Prelude.{
  ◌≡◌,
  ℕ,
  ℤ,
  ◌↔◌,
  ◌⊎◌,
  List,
  [],
  ◌∷◌,
  length,
  take,
  Some,
  slice_get,
  IsSomeAnd,
  IsTrue,
  All,
  Any,
  ⊤,
}
use Rattle.std.specs.List.{AllZip}
use Rattle.keys.specs.declared.range.Range.{Range}
use Rattle.keys.specs.Key.{IsBytes}
use Rattle.keyspace.specs.declared.txn.Txn.{Txn}
use Rattle.keyspace.specs.declared.reply.Verdict.TheVariants.{Committed}
use Rattle.keyspace.specs.Processed.{Processed}
use Rattle.keyspace.specs.Writes.{writes, earlier}
use Rattle.keyspace.specs.Judged.{edge, HasVerdict}
use Rattle.keyspace.specs.Chain.{IsChain}
use Rattle.serial.specs.Commits.{IsCommitted}
use Rattle.serial.specs.Shards.{Shard, shards, IsRising}
use Rattle.shards.specs.declared.shard_reply.ShardReply.{ShardReply}
use Rattle.shards.specs.Clips.{GoesTo, goes_to, IsBatchClip}
use Rattle.shards.specs.Combined.{IsCombined}

-- `goes_to` computes what `GoesTo` says
abbrev pub GoesToIsComputed : Type 0
GoesToIsComputed =
    (points : List (List ℕ)) → IsRising [] points → All IsBytes points → (m : ℕ) (shard : Shard)
    → slice_get (shards points) m ≡ Some shard → (range : Range) → IsTrue (goes_to shard range) ↔ GoesTo shard range

-- each range goes to some shard
abbrev pub EachRangeGoes : Type 0
EachRangeGoes = (points : List (List ℕ)) (range : Range) → Any (λ shard. IsTrue (goes_to shard range)) (shards points)

-- the replies of the shards to batch i, each with some indices of read ranges
abbrev pub AreRepliesTo : ℕ → List (List Processed) → List ShardReply → Type 0
AreRepliesTo i each replies = AllZip (λ own s. IsSomeAnd (slice_get own i) (λ c. s.reply ≡ c.reply)) each replies

-- What the resolvers of all shards have processed, one list per shard, and the batches as they were sent, each with the
-- combined reply. A condition on each shard's list is given.
pub record AreCombinedBy (IsOfShard : List Processed → Type 0) (points : List (List ℕ)) (each : List (List Processed))
    (ps : List Processed) : Type 0 where
  pub rising : IsRising [] points
  pub one_each : length each ≡ length (shards points)
  pub chains : All IsOfShard each
  -- each shard processes the batches clipped to it
  pub clips :
      (m : ℕ) (shard : Shard) (own : List Processed) → slice_get (shards points) m ≡ Some shard → slice_get each m ≡ Some own
      → AllZip (λ p c. IsBatchClip shard p.batch c.batch) ps own
  pub replies :
      (i : ℕ) (p : Processed) → slice_get ps i ≡ Some p
      → (replies : List ShardReply) × AreRepliesTo i each replies × IsCombined p.batch replies p.reply

-- all shards have processed the same batches: each list is a chain
abbrev pub AreCombined : ℤ → List (List ℕ) → List (List Processed) → List Processed → Type 0
AreCombined window points each ps = AreCombinedBy (IsChain window) points each ps

-- these are in the other list, in the same order; others may be between them
abbrev pub IsAmong : {X : Type 0} → List X → List X → Type 0
IsAmong [] ys = ⊤
IsAmong (x ∷ xs) [] = ⊥
IsAmong (x ∷ xs) (y ∷ ys) = ((x ≡ y) × IsAmong xs ys) ⊎ IsAmong (x ∷ xs) ys

-- these are of a chain; the shard may have processed others between them
abbrev pub IsOfChain : ℤ → List Processed → Type 0
IsOfChain window own = (chain : List Processed) × IsChain window chain × IsAmong own chain

-- Of the batches that all shards have processed: each shard may have processed other batches between them, which some other shard hasn't.
abbrev pub AreCombinedAmongOthers : ℤ → List (List ℕ) → List (List Processed) → List Processed → Type 0
AreCombinedAmongOthers window points each ps = AreCombinedBy (IsOfChain window) points each ps

-- Each committed transaction is one that a single resolver commits if it remembers just the writes that clients received as committed.
-- A shard also remembers writes that another shard has rejected. So several resolvers may reject more, never commit more.
abbrev pub CommitsNoMore : ℤ → List Processed → Type 0
CommitsNoMore window ps =
    (i j : ℕ) (p : Processed) (t : Txn) → IsCommitted ps i j p t
    → HasVerdict (edge window p.batch) (writes (take i ps)) (earlier p.batch p.reply j) t Committed
