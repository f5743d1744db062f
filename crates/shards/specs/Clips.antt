-- What a shard gets of a batch. That each resolver gets the ranges that concern its keys is FoundationDB's (paper, SIGMOD 2021). That
-- ranges are cut, that an empty range goes to the shard of its key, and that every shard gets every transaction, is this project's own.
use Rattle.std.specs.Prelude.{
  ◌≡◌,
  ℕ,
  Bool,
  ◌&&◌,
  if◌then◌else◌,
  IsTrue,
  ◌⊎◌,
  List,
  map,
  filter,
}
use Rattle.std.specs.List.{AllZip}
use Rattle.keys.specs.declared.range.Range.{Range}
use Rattle.keys.specs.Key.{IsBytes, is_before}
use Rattle.keys.specs.Range.{IsEmpty}
use Rattle.keyspace.specs.declared.txn.Txn.{Txn}
use Rattle.keyspace.specs.declared.batch.Batch.{Batch}
use Rattle.keyspace.specs.Judge.{places_from}
use Rattle.serial.specs.Commits.{holds}
use Rattle.serial.specs.Shards.{Shard, ends_above, has_key}
use Rattle.shards.specs.declared.clipped.Clipped.{Clipped}

-- a range goes to each shard that has a key of it, and an empty range to the shard of its begin key
abbrev pub GoesTo : Shard → Range → Type 0
GoesTo shard range =
    ((key : List ℕ) × IsBytes key × IsTrue (has_key shard key) × IsTrue (holds range key))
    ⊎ (IsEmpty range × IsTrue (has_key shard range.begin))

-- what code can compute of it: the shard begins before the range ends, and the range begins before the shard ends
abbrev pub goes_to : Shard → Range → Bool
goes_to shard range =
    if is_before range.begin range.end
    then is_before shard.from range.end && ends_above shard.to range.begin
    else has_key shard range.begin

-- the clip of a range that goes to the shard: it holds the keys that both hold, and an empty range stays as it is
pub record IsClip (shard : Shard) (range clip : Range) : Type 0 where
  pub keys : (key : List ℕ) → IsBytes key → holds clip key ≡ (has_key shard key && holds range key)
  pub empty : IsEmpty range → (clip.begin ≡ range.begin) × (clip.end ≡ range.end)

-- the clips of those ranges that go to the shard, in order, and no others
abbrev pub AreClips : Shard → List Range → List Range → Type 0
AreClips shard ranges clips = AllZip (IsClip shard) (filter (goes_to shard) ranges) clips

pub record IsTxnClip (shard : Shard) (t clip : Txn) : Type 0 where
  pub snapshot : clip.snapshot ≡ t.snapshot
  pub marked : clip.marked ≡ t.marked
  pub reads : AreClips shard t.reads clip.reads
  pub writes : AreClips shard t.writes clip.writes

-- the same versions, and each transaction at its index
pub record IsBatchClip (shard : Shard) (b clip : Batch) : Type 0 where
  pub previous : clip.previous ≡ b.previous
  pub version : clip.version ≡ b.version
  pub received : clip.received ≡ b.received
  pub txns : AllZip (IsTxnClip shard) b.txns clip.txns

-- the indices, in the transaction, of those of its read ranges that go to the shard: so its clip numbers them
abbrev pub read_indices : Shard → Txn → List ℕ
read_indices shard t = places_from 0 (goes_to shard) t.reads

-- the batch of the shard, and for each of its transactions the indices of its read ranges in the transaction as it was sent
pub record IsClipped (shard : Shard) (b : Batch) (clipped : Clipped) : Type 0 where
  pub batch : IsBatchClip shard b clipped.batch
  pub reads : clipped.reads ≡ map (read_indices shard) b.txns
