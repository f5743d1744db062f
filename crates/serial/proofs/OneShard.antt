-- Rising split points make shards of which exactly one has each key.
use Rattle.std.proofs.Common.{◌≡◌, ℕ, zero, suc, true, not, List, [], ◌∷◌, refl, ap, inl, inr}
use Rattle.std.specs.Prelude.{Option, Some, None, IsTrue, IsSomeAnd, slice_get}
use Rattle.keys.specs.Key.{is_before, IsBefore, IsAtMost}
use Rattle.keys.proofs.callers.Booleans.{and_left, and_right, and_both}
use Rattle.keys.proofs.callers.KeyOrder.{before_at_most, before_or_at_most, not_both, before_at_most_same}
use Rattle.serial.specs.Shards.{Shard, ends_above, has_key, shards_from, IsRising, IsInOne, OneShardEach}

-- there is a shard at this index, and it has the key
abbrev IsThere : List Shard → List ℕ → ℕ → Type 0
IsThere shards key m = IsSomeAnd (slice_get shards m) (λ shard. IsTrue (has_key shard key))

-- the empty key is the first of all
empty_is_first : (key : List ℕ) → IsAtMost [] key
empty_is_first [] = refl
empty_is_first (byte ∷ key) = refl

-- the shard from one key up to another one has no key below the first
from_first : (from : List ℕ) (to : Option (List ℕ)) (key : List ℕ)
    → IsTrue (has_key (record { from = from; to = to }) key) → IsAtMost from key
from_first from to key h = and_left (not (is_before key from)) (ends_above to key) h

-- nor one at or above the other
below_end : (from : List ℕ) (to : Option (List ℕ)) (key : List ℕ)
    → IsTrue (has_key (record { from = from; to = to }) key) → IsTrue (ends_above to key)
below_end from to key h = and_right (not (is_before key from)) (ends_above to key) h

-- shards that begin at a key have no key below it
none_below : (from : List ℕ) (points : List (List ℕ)) → IsRising from points → (key : List ℕ) (m : ℕ)
    → IsThere (shards_from from points) key m → IsAtMost from key
none_below from [] rising key zero h = from_first from None key h
none_below from [] rising key (suc m) h = elim h [ ]
none_below from (point ∷ points) rising key zero h = from_first from (Some point) key h
none_below from (point ∷ points) rising key (suc m) h =
    before_at_most_same from key (before_at_most from point key rising.0 (none_below point points rising.1 key m h))

-- without split points, only the first shard has a key
alone_without_points : (from key : List ℕ) (m : ℕ) → IsThere (shards_from from []) key m → m ≡ 0
alone_without_points from key zero h = refl
alone_without_points from key (suc m) h = elim h [ ]

-- a key below the first split point lies in no shard but the first
alone_below_point : (from point : List ℕ) (points : List (List ℕ)) → IsRising point points → (key : List ℕ) → IsBefore key point
    → (m : ℕ) → IsThere (shards_from from (point ∷ points)) key m → m ≡ 0
alone_below_point from point points rising key below zero h = refl
alone_below_point from point points rising key below (suc m) h =
    absurd (not_both key point below (none_below point points rising key m h))

-- a key from the first split point on lies in no shard but the one that has it among those after the first
alone_above_point : (from point : List ℕ) (points : List (List ℕ)) (key : List ℕ) → IsAtMost point key
    → (one : IsInOne (shards_from point points) key)
    → (m : ℕ) → IsThere (shards_from from (point ∷ points)) key m → m ≡ suc one.index
alone_above_point from point points key above one zero h = absurd (not_both key point (below_end from (Some point) key h) above)
alone_above_point from point points key above one (suc m) h = ap suc (one.alone m h)

-- each key from the first one on lies in exactly one of the shards
one_from : (from : List ℕ) (points : List (List ℕ)) → IsRising from points → (key : List ℕ) → IsAtMost from key
    → IsInOne (shards_from from points) key
one_from from [] rising key above = record {
  index = 0;
  there = and_both (not (is_before key from)) true above refl;
  alone = alone_without_points from key;
}
one_from from (point ∷ points) rising key above =
    elim (before_or_at_most key point) [
      | inl below ↦ record {
        index = 0;
        there = and_both (not (is_before key from)) (is_before key point) above below;
        alone = alone_below_point from point points rising.1 key below;
      }
      | inr later ↦
          let one = one_from point points rising.1 key later in
          record {
            index = suc one.index;
            there = one.there;
            alone = alone_above_point from point points key later one;
          }
    ]

-- each key lies in exactly one of the shards that rising split points make
pub one_shard_each : OneShardEach
one_shard_each points rising key bytes = one_from [] points rising key (empty_is_first key)
