-- To which shards a range goes, by their numbers.
use Rattle.std.specs.Prelude.{
  ◌≡◌,
  ℕ,
  ◌≤◌,
  ◌&&◌,
  Bool,
  false,
  List,
  [],
  ◌∷◌,
  length,
  Option,
  Some,
  None,
  slice_get,
  slice_index_or,
  IsTrue,
  nat_lt,
  nat_le,
}
use Rattle.keys.specs.declared.range.Range.{Range}
use Rattle.keys.specs.Key.{is_before}
use Rattle.serial.specs.Shards.{Shard}
use Rattle.shards.specs.Clips.{goes_to}
use Rattle.shards.specs.declared.reach.Reach.{Reach}

-- shard m, if there are that many: `shards` by its number
abbrev pub shard_at : List (List ℕ) → ℕ → Shard
shard_at points m = record { from = slice_index_or ([] ∷ points) m []; to = slice_get points m }

-- the split points that pass the test are the first n
pub record AreFirst (test : List ℕ → Bool) (points : List (List ℕ)) (n : ℕ) : Type 0 where
  pub within : n ≤ length points
  pub pass : (i : ℕ) (point : List ℕ) → slice_get points i ≡ Some point → test point ≡ nat_lt i n

-- the shard ends before the key
abbrev pub ends_below : Option (List ℕ) → List ℕ → Bool
ends_below None key = false
ends_below (Some to) key = is_before to key

abbrev pub is_reached : Reach → ℕ → Bool
is_reached reach m = nat_le reach.first m && nat_le m reach.last

-- whether the range goes to shard m, begins before it, and ends after it
pub record IsReported (shard : Shard) (m : ℕ) (range : Range) (reach : Reach) : Type 0 where
  pub goes : goes_to shard range ≡ is_reached reach m
  pub begins : is_before range.begin shard.from ≡ nat_lt reach.first m
  pub ends : IsTrue (is_reached reach m) → ends_below shard.to range.end ≡ nat_lt m reach.last

-- the range goes to the shards from the first one to the last
pub record IsReach (points : List (List ℕ)) (range : Range) (reach : Reach) : Type 0 where
  pub within : reach.last ≤ length points
  pub each : (m : ℕ) → m ≤ length points → IsReported (shard_at points m) m range reach
