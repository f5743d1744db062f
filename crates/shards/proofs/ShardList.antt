-- The shards by their numbers, and rising split points.
use Rattle.std.proofs.Common.{◌≡◌, ℕ, zero, suc, ◌<◌, ◌≤◌, List, [], ◌∷◌, ◌++◌, ◌+◌, length, get_or, take, refl, ap, subst, inl, inr, arith}
use Rattle.std.specs.Prelude.{Some, slice_get}
use Rattle.std.proofs.lemmas.Bool.{cases_lt}
use Rattle.keys.specs.Key.{IsBefore, IsAtMost}
use Rattle.keys.proofs.callers.KeyOrder.{before_trans, before_at_most_same, at_most_itself}
use Rattle.serial.specs.Shards.{shards_from, shards, IsRising}
use Rattle.shards.specs.SplitPoints.{IsFirstFall}
use Rattle.shards.specs.Reach.{shard_at}

-- one more than the split points
pub length-shards : (from : List ℕ) (points : List (List ℕ)) → length (shards_from from points) ≡ suc (length points)
length-shards from [] = refl
length-shards from (point ∷ points) = ap suc (length-shards point points)

shards_get : (from : List ℕ) (points : List (List ℕ)) (m : ℕ) → m ≤ length points
    → slice_get (shards_from from points) m ≡ Some (record { from = get_or (from ∷ points) m []; to = slice_get points m })
shards_get from [] zero within = refl
shards_get from [] (suc m) within = absurd (omega (arith, within))
shards_get from (point ∷ points) zero within = refl
shards_get from (point ∷ points) (suc m) within = shards_get point points m (omega (arith, within))

-- the shard at an index is that of its number
pub shard_get : (points : List (List ℕ)) (m : ℕ) → m ≤ length points → slice_get (shards points) m ≡ Some (shard_at points m)
shard_get points m within = shards_get [] points m within

-- each split point comes after the key that they rise from
pub after_from : (from : List ℕ) (points : List (List ℕ)) → IsRising from points → (i : ℕ) (d : List ℕ) → i < length points
    → IsBefore from (get_or points i d)
after_from from [] rising i d within = absurd (omega (arith, within))
after_from from (point ∷ points) rising zero d within = rising.0
after_from from (point ∷ points) rising (suc i) d within =
    before_trans from point (get_or points i d) rising.0 (after_from point points rising.1 i d (omega (arith, within)))

-- an earlier one isn't after a later one
pub rising_order : (from : List ℕ) (points : List (List ℕ)) → IsRising from points → (i j : ℕ) (d : List ℕ) → i ≤ j → j < length points
    → IsAtMost (get_or points i d) (get_or points j d)
rising_order from [] rising i j d order within = absurd (omega (arith, within))
rising_order from (point ∷ points) rising zero zero d order within = at_most_itself point
rising_order from (point ∷ points) rising zero (suc j) d order within =
    before_at_most_same point (get_or points j d) (after_from point points rising.1 j d (omega (arith, within)))
rising_order from (point ∷ points) rising (suc i) zero d order within = absurd (omega (arith, order))
rising_order from (point ∷ points) rising (suc i) (suc j) d order within =
    rising_order point points rising.1 i j d (omega (arith, order)) (omega (arith, within))

-- the first of rising keys rise
pub rising_prefix : (from : List ℕ) (points : List (List ℕ)) (n m : ℕ) → n ≤ m → IsRising from (take m points)
    → IsRising from (take n points)
rising_prefix from points zero m order rising = tt
rising_prefix from points (suc n) zero order rising = absurd (omega (arith, order))
rising_prefix from [] (suc n) (suc m) order rising = tt
rising_prefix from (point ∷ points) (suc n) (suc m) order rising =
    (rising.0, rising_prefix point points n m (omega (arith, order)) rising.1)

pub rising_take : (from : List ℕ) (points : List (List ℕ)) (n : ℕ) → IsRising from points → IsRising from (take n points)
rising_take from points zero rising = tt
rising_take from [] (suc n) rising = tt
rising_take from (point ∷ points) (suc n) rising = (rising.0, rising_take point points n rising.1)

-- there is one first fall at most
pub one_fall : (points : List (List ℕ)) (n m : ℕ) → IsFirstFall points n → IsFirstFall points m → n ≡ m
one_fall points n m h k =
    elim (cases_lt n m) [
      | inl less ↦ absurd (h.fall (rising_prefix [] points (n + 1) m (omega (arith, less)) k.before))
      | inr most ↦ elim (cases_lt m n) [
        | inl less ↦ absurd (k.fall (rising_prefix [] points (m + 1) n (omega (arith, less)) h.before))
        | inr least ↦ omega (arith, most, least)
      ]
    ]

-- each shard of rising split points begins before it ends
pub shard_some : (from : List ℕ) (points : List (List ℕ)) → IsRising from points → (m : ℕ) (to : List ℕ) → slice_get points m ≡ Some to
    → IsBefore (get_or (from ∷ points) m []) to
shard_some from [] rising m to at = cc
shard_some from (point ∷ points) rising zero to at = let same : point ≡ to = cc in subst (IsBefore from) same rising.0
shard_some from (point ∷ points) rising (suc m) to at = shard_some point points rising.1 m to at

-- the last of the keys, or the one that they rise from
abbrev pub last_or : List ℕ → List (List ℕ) → List ℕ
last_or from [] = from
last_or from (point ∷ points) = last_or point points

-- keys rise with one key more exactly if it comes after the last
pub rising_more : (from : List ℕ) (points : List (List ℕ)) (point : List ℕ) → IsRising from points → IsBefore (last_or from points) point
    → IsRising from (points ++ point ∷ [])
rising_more from [] point rising after = (after, tt)
rising_more from (first ∷ points) point rising after = (rising.0, rising_more first points point rising.1 after)

pub rising_last : (from : List ℕ) (points : List (List ℕ)) (point : List ℕ) → IsRising from (points ++ point ∷ [])
    → IsBefore (last_or from points) point
rising_last from [] point rising = rising.0
rising_last from (first ∷ points) point rising = rising_last first points point rising.1

pub last_more : (from : List ℕ) (points : List (List ℕ)) (point : List ℕ) → last_or from (points ++ point ∷ []) ≡ point
last_more from [] point = refl
last_more from (first ∷ points) point = last_more first points point
