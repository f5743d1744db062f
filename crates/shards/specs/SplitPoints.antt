-- Split points, and the first key that can't be one. The shards that they make are those of `serial`. Source: several resolvers of
-- FoundationDB 7.1, each for a range of keys. The limit is this project's own.
use Rattle.std.specs.Prelude.{ℕ, ◌+◌, ◌≤◌, List, [], length, take}
use Rattle.serial.specs.Shards.{IsRising}
use Rattle.shards.specs.declared.split_points.TheConstants.{MAX_SPLIT_POINTS}

-- each key comes after the one before, and the first after the empty key; there are few
pub record AreSplitPoints (points : List (List ℕ)) : Type 0 where
  pub rising : IsRising [] points
  pub few : length points ≤ MAX_SPLIT_POINTS

-- the key at the index is the first that doesn't come after the one before it
pub record IsFirstFall (points : List (List ℕ)) (index : ℕ) : Type 0 where
  pub before : IsRising [] (take index points)
  pub fall : ¬ IsRising [] (take (index + 1) points)
