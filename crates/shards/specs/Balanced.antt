-- Split points that spread a load evenly, by a sample of batches. Resolvers of FoundationDB 7.1 also
-- sample where ranges begin. The rule is this project's own.
use Rattle.std.specs.Prelude.{
  ℕ,
  ◌*◌,
  ◌<◌,
  ◌≤◌,
  Bool,
  ◌&&◌,
  List,
  length,
  map,
  flat_map,
  count_by,
  All,
  Contains,
}
use Rattle.keys.specs.Key.{is_before}
use Rattle.keyspace.specs.declared.batch.Batch.{Batch}
use Rattle.keyspace.specs.storage.BatchRanges.{ranges_in}
use Rattle.serial.specs.Shards.{Shard, ends_above, shards}

-- the begins of the ranges of a batch, read and write ranges: a key comes once per range
abbrev pub begins_in : Batch → List (List ℕ)
begins_in b = map (λ range. range.begin) (ranges_in b.txns)

-- the begins of the ranges of a sample
abbrev pub begins_of : List Batch → List (List ℕ)
begins_of sample = flat_map begins_in sample

-- the shard has the key, and doesn't begin with it
abbrev pub is_inside : Shard → List ℕ → Bool
is_inside shard key = is_before shard.from key && ends_above shard.to key

-- Of n shards, this one has at most an n-th of the begins, besides those at its first key. No split
-- point separates these.
abbrev pub HasItsPart : ℕ → List (List ℕ) → Shard → Type 0
HasItsPart n begins shard = n * count_by (is_inside shard) begins ≤ length begins

-- The points make n shards at most, and each shard has its part. Each point is the begin of a range
-- of the sample.
pub record IsBalanced (n : ℕ) (begins points : List (List ℕ)) : Type 0 where
  pub few : length points < n
  pub sampled : All (Contains begins) points
  pub even : All (HasItsPart n begins) (shards points)
