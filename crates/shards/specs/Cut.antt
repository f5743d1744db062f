-- How a range is cut to one shard, as it is computed where a batch is clipped in place.
use Rattle.std.specs.Prelude.{◌≡◌, ℕ, true, List, option_map}
use Rattle.keys.specs.declared.range.Range.{Range}
use Rattle.keys.specs.Key.{is_before}
use Rattle.serial.specs.Shards.{Shard}
use Rattle.shards.specs.Clips.{goes_to}
use Rattle.shards.specs.Reach.{ends_below}
use Rattle.shards.specs.declared.headed_key.HeadedKey.{HeadedKey}
use Rattle.shards.specs.declared.shard_ends.Cut.{Cut}
use Rattle.shards.specs.declared.shard_ends.ShardEnds.{ShardEnds}

-- the key without its head
abbrev pub headed_key : HeadedKey → List ℕ
headed_key headed = headed.key.now

-- the shard between its ends
abbrev pub shard_of_ends : ShardEnds → Shard
shard_of_ends ends = record { from = headed_key ends.from; to = option_map headed_key ends.to }

-- The range goes to the shard. Its clip begins with the shard if the range begins before that, and ends with it if the range ends after that.
pub record IsCut (shard : Shard) (range : Range) (cut : Cut) : Type 0 where
  pub goes : goes_to shard range ≡ true
  pub begin : cut.begin ≡ is_before range.begin shard.from
  pub end : cut.end ≡ ends_below shard.to range.end
