-- Why keys are refused as split points, by which step refuses.
use Rattle.std.proofs.Common.{◌≡◌, ℕ, ◌≤◌, ◌<◌, List, length, refl, ap, subst, arith}
use Rattle.shards.specs.SplitPoints.{IsFirstFall}
use Rattle.shards.specs.declared.error.SplitPointsError.{SplitPointsError}
use Rattle.shards.specs.declared.error.SplitPointsError.TheVariants as error
use Rattle.archcaraway_c.specs.declared.points_refusal.PointsRefusal.{PointsRefusal}
use Rattle.archcaraway_c.specs.declared.points_refusal.PointsRefusal.TheVariants.{TooMany, NotRising, KeyLength, Argument, Memory}
use Rattle.archcaraway_c.specs.Points.{keys_given, KeysRefuse, PointsRefuse, refusal_of_same_name}
use Rattle.archcaraway_c.proofs.KeysGiven.{length-given}

pub keys_refused : (bytes lengths : List ℕ) (refusal : PointsRefusal) → length lengths ≤ 63 → KeysRefuse bytes lengths refusal
    → PointsRefuse bytes lengths refusal
keys_refused bytes lengths TooMany few refuses = absurd refuses
keys_refused bytes lengths (NotRising index) few refuses = absurd refuses
keys_refused bytes lengths (KeyLength index) few refuses = (few, refuses)
keys_refused bytes lengths Argument few refuses = (few, refuses)
keys_refused bytes lengths Memory few refuses = tt

pub points_refused : (bytes lengths : List ℕ) (keys : List (List ℕ)) (e : SplitPointsError) → length lengths ≤ 63
    → keys ≡ keys_given bytes lengths → (e ≡ error.TooMany → 63 < length keys)
    → ((index : ℕ) → e ≡ error.NotRising index → (length keys ≤ 63) × IsFirstFall keys index)
    → PointsRefuse bytes lengths (refusal_of_same_name e)
points_refused bytes lengths keys error.TooMany few are many falls =
    omega (arith, many refl, ap length are, length-given bytes lengths)
points_refused bytes lengths keys (error.NotRising index) few are many falls =
    (few, subst (λ (ks : List (List ℕ)). IsFirstFall ks index) are (falls index refl).1)
