-- The write ranges of committed transactions. Source: Algorithm 1 of the FoundationDB paper (SIGMOD 2021), which
-- keeps the last version of each committed write.
use Rattle.std.specs.Prelude.{ℕ, ℤ, List, [], ◌∷◌, ◌++◌, map, take, flat_map}
use Rattle.keys.specs.declared.range.Range.{Range}
use Rattle.keyspace.specs.declared.txn.Txn.{Txn}
use Rattle.keyspace.specs.declared.batch.Batch.{Batch}
use Rattle.keyspace.specs.declared.reply.Verdict.{Verdict}
use Rattle.keyspace.specs.declared.reply.Verdict.TheVariants.{Conflict, TooOld, Committed}
use Rattle.keyspace.specs.declared.reply.Entry.{Entry}
use Rattle.keyspace.specs.declared.reply.Reply.{Reply}
use Rattle.keyspace.specs.Processed.{Processed}

-- a range that was written, and the version of its batch
pub record Write : Type 0 where
  pub range : Range
  pub version : ℤ

-- the writes, and this one after them
abbrev pub with_write : List Write → Range → ℤ → List Write
with_write ws range version = ws ++ record { range = range; version = version } ∷ []

-- ranges that are written at one version
abbrev pub at_version : ℤ → List Range → List Write
at_version version ranges = map (λ range. record { range = range; version = version }) ranges

-- the ranges of writes
abbrev pub ranges_of : List Write → List Range
ranges_of ws = map (λ w. w.range) ws

-- what counts of a transaction's write ranges under this verdict: those of a committed transaction, and no other
abbrev pub counted_ranges : Verdict → List Range → List Range
counted_ranges Committed ranges = ranges
counted_ranges TooOld ranges = []
counted_ranges Conflict ranges = []

-- the write ranges of the transactions whose entries say committed, in order
abbrev pub committed_ranges : List Txn → List Entry → List Range
committed_ranges (t ∷ ts) (e ∷ es) = counted_ranges e.verdict t.writes ++ committed_ranges ts es
committed_ranges [] es = []
committed_ranges (t ∷ ts) [] = []

-- the same of a batch and its reply, each at the batch's version
abbrev pub writes_of : Batch → Reply → List Write
writes_of b r = at_version b.version (committed_ranges b.txns r.entries)

-- all writes committed so far
abbrev pub writes : List Processed → List Write
writes ps = flat_map (λ p. writes_of p.batch p.reply) ps

-- the write ranges of the transactions before index j that the reply calls committed
abbrev pub earlier : Batch → Reply → ℕ → List Range
earlier b r j = committed_ranges (take j b.txns) (take j r.entries)
