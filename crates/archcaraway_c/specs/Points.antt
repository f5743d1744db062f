-- Split points that C gives by their keys. This project's own.
use Rattle.std.specs.Prelude.{ℕ, ℤ, pos, ◌<◌, ◌≤◌, List, [], ◌∷◌, length, take, drop, sum, slice_get, IsSomeAnd}
use Rattle.keys.specs.declared.key.TheConstants.{MAX_KEY_LENGTH}
use Rattle.shards.specs.SplitPoints.{IsFirstFall}
use Rattle.shards.specs.declared.split_points.TheConstants.{MAX_SPLIT_POINTS}
use Rattle.shards.specs.declared.error.SplitPointsError.{SplitPointsError}
use Rattle.shards.specs.declared.error.SplitPointsError.TheVariants as error
use Rattle.archcaraway_c.specs.declared.points_refusal.PointsRefusal.{PointsRefusal}
use Rattle.archcaraway_c.specs.declared.points_refusal.PointsRefusal.TheVariants.{TooMany, NotRising, KeyLength, Argument, Memory}

-- keys that lie one by one among the bytes, from their first on, by their lengths
abbrev pub keys_given : List ℕ → List ℕ → List (List ℕ)
keys_given bytes [] = []
keys_given bytes (count ∷ counts) = take count bytes ∷ keys_given (drop count bytes) counts

-- why keys aren't copied: one is too long, or the bytes end before the keys do; memory may be refused instead
abbrev pub KeysRefuse : List ℕ → List ℕ → PointsRefusal → Type 0
KeysRefuse bytes lengths TooMany = ⊥
KeysRefuse bytes lengths (NotRising index) = ⊥
KeysRefuse bytes lengths (KeyLength index) = IsSomeAnd (slice_get lengths index) (λ count. MAX_KEY_LENGTH < count)
KeysRefuse bytes lengths Argument = length bytes < sum lengths
KeysRefuse bytes lengths Memory = Unit {0}

-- Why keys are refused as split points: there are too many, else they aren't copied, else one isn't after the one before it.
abbrev pub PointsRefuse : List ℕ → List ℕ → PointsRefusal → Type 0
PointsRefuse bytes lengths TooMany = MAX_SPLIT_POINTS < length lengths
PointsRefuse bytes lengths (NotRising index) =
    (length lengths ≤ MAX_SPLIT_POINTS) × IsFirstFall (keys_given bytes lengths) index
PointsRefuse bytes lengths (KeyLength index) =
    (length lengths ≤ MAX_SPLIT_POINTS) × KeysRefuse bytes lengths (KeyLength index)
PointsRefuse bytes lengths Argument = (length lengths ≤ MAX_SPLIT_POINTS) × KeysRefuse bytes lengths Argument
PointsRefuse bytes lengths Memory = Unit {0}

-- the refusal by the same name
abbrev pub refusal_of_same_name : SplitPointsError → PointsRefusal
refusal_of_same_name error.TooMany = TooMany
refusal_of_same_name (error.NotRising index) = NotRising index

-- the numbers by which C sees these refusals
abbrev pub points_status : PointsRefusal → ℤ
points_status TooMany = pos 301
points_status (NotRising index) = pos 302
points_status (KeyLength index) = pos 108
points_status Argument = pos 202
points_status Memory = pos 1

-- the index of the key at fault, or the number of keys
abbrev pub bad_key : ℕ → PointsRefusal → ℕ
bad_key count TooMany = count
bad_key count (NotRising index) = index
bad_key count (KeyLength index) = index
bad_key count Argument = count
bad_key count Memory = count
