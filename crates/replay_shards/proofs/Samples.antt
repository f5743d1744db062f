-- The first batches of readers, in sequence.
use Rattle.std.specs.Prelude.{◌≡◌, ℕ, List, [], ◌∷◌, ◌++◌, Option, flat_map, map, vec_items, Vec}
use Rattle.std.proofs.Common.{Global, refl, sym, ap, subst}
use Rattle.keyspace.specs.declared.batch.Batch.{Batch}
use Rattle.wire.specs.NextFrame.{TakesFrame}
use Rattle.replay_shards.specs.Sampling.{AreTaken}

-- one batch more
pub taken_more : (a b c : Option (List ℕ)) (batches : List Batch) (batch : Batch) → AreTaken a b batches → TakesFrame b c batch
    → AreTaken a c (batches ++ batch ∷ [])
taken_more a b c [] batch same takes = (c, subst (λ o. TakesFrame o c batch) (sym same) takes, refl)
taken_more a b c (first ∷ batches) batch taken takes = (taken.0, taken.1, taken_more taken.0 b c batches batch taken.2 takes)

-- the batches of all
pub all_of : (samples : List (Vec Batch Global)) → flat_map (λ own. own) (map vec_items samples) ≡ flat_map (λ own. own.items) samples
all_of [] = refl
all_of (own ∷ samples) = ap (λ l. own.items ++ l) (all_of samples)
