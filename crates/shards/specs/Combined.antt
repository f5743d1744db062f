-- The reply of all shards together. That a transaction commits if all resolvers admit it is FoundationDB's (paper, SIGMOD 2021). The
-- order of verdicts is that of `TransactionCommitResult` of release 7.1. Which replies are refused is this project's own.
use Rattle.std.specs.Prelude.{
  ◌≡◌,
  ℕ,
  ◌<◌,
  ◌≤◌,
  ◌↔◌,
  List,
  length,
  take,
  Some,
  slice_get,
  IsSomeAnd,
  All,
  Any,
  Contains,
}
use Rattle.std.specs.List.Sorted.{IsStrictlyIncreasing}
use Rattle.keyspace.specs.declared.batch.Batch.{Batch}
use Rattle.keyspace.specs.declared.reply.Verdict.{Verdict}
use Rattle.keyspace.specs.declared.reply.Verdict.TheVariants.{Conflict, TooOld, Committed}
use Rattle.keyspace.specs.declared.reply.Entry.{Entry}
use Rattle.keyspace.specs.declared.reply.Reply.{Reply}
use Rattle.shards.specs.declared.shard_reply.ShardReply.{ShardReply}
use Rattle.shards.specs.declared.error.Misfit.{Misfit}
use Rattle.shards.specs.declared.error.Misfit.TheVariants as misfit

-- the order of verdicts: conflict, too old, committed
abbrev pub rank : Verdict → ℕ
rank Conflict = 0
rank TooOld = 1
rank Committed = 2

-- the shard has an entry for transaction j, of which this holds
abbrev pub OfEntry : ℕ → (Entry → Type 0) → ShardReply → Type 0
OfEntry j P s = IsSomeAnd (slice_get s.reply.entries j) P

-- some shard gives transaction j this verdict, and no shard gives it a lesser one
pub record IsLeast (each : List ShardReply) (j : ℕ) (verdict : Verdict) : Type 0 where
  pub given : Any (OfEntry j (λ e. e.verdict ≡ verdict)) each
  pub least : All (OfEntry j (λ e. rank verdict ≤ rank e.verdict)) each

-- the shard reports the read range of transaction j that has this index in the transaction as it was sent
abbrev pub Reports : ℕ → ℕ → ShardReply → Type 0
Reports j index s =
    OfEntry j (λ e. (place : ℕ) × Contains e.places place
    × IsSomeAnd (slice_get s.reads j) (λ indices. slice_get indices place ≡ Some index)) s

-- The entry of transaction j: the least verdict, and what any shard reports. Only a conflict has a report, and one conflict makes the
-- least verdict a conflict. So a report of some shard belongs to the verdict.
pub record IsCombinedEntry (each : List ShardReply) (j : ℕ) (e : Entry) : Type 0 where
  pub verdict : IsLeast each j e.verdict
  pub rising : IsStrictlyIncreasing e.places
  pub union : (index : ℕ) → Contains e.places index ↔ Any (Reports j index) each

-- r is the reply to b of all shards together
pub record IsCombined (b : Batch) (each : List ShardReply) (r : Reply) : Type 0 where
  pub version : r.version ≡ b.version
  pub count : length r.entries ≡ length b.txns
  pub entries : (j : ℕ) (e : Entry) → slice_get r.entries j ≡ Some e → IsCombinedEntry each j e

-- Replies that are refused.

abbrev pub HasVersion : Batch → ShardReply → Type 0
HasVersion b s = s.reply.version ≡ b.version

-- one entry, and one list of indices, per transaction
pub record HasCount (b : Batch) (s : ShardReply) : Type 0 where
  pub entries : length s.reply.entries ≡ length b.txns
  pub reads : length s.reads ≡ length b.txns

-- each place that is reported is one of a read range of the clipped transaction
abbrev pub HasPlaces : ShardReply → Type 0
HasPlaces s =
    (j : ℕ) (e : Entry) (indices : List ℕ) → slice_get s.reply.entries j ≡ Some e → slice_get s.reads j ≡ Some indices
    → All (λ place. place < length indices) e.places

-- why the shard's reply isn't one to the batch: the first cause of three
abbrev pub IsMisfit : Batch → Misfit → ShardReply → Type 0
IsMisfit b misfit.Version s = ¬ HasVersion b s
IsMisfit b misfit.Count s = HasVersion b s × ¬ HasCount b s
IsMisfit b misfit.Place s = HasVersion b s × HasCount b s × ¬ HasPlaces s

pub record Fits (b : Batch) (s : ShardReply) : Type 0 where
  pub version : HasVersion b s
  pub count : HasCount b s
  pub places : HasPlaces s

-- the first shard whose reply isn't one to the batch
pub record IsFirstMisfit (b : Batch) (each : List ShardReply) (shard : ℕ) (cause : Misfit) : Type 0 where
  pub before : All (Fits b) (take shard each)
  pub first : IsSomeAnd (slice_get each shard) (IsMisfit b cause)

-- transaction j has an entry and indices, and reports what is there
pub record FitsAt (j : ℕ) (s : ShardReply) : Type 0 where
  pub entry : j < length s.reply.entries
  pub reads : j < length s.reads
  pub places : HasPlaces s
