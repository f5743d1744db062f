-- The batches by which split points are chosen. This project's own.
use Rattle.std.specs.Prelude.{◌≡◌, ℕ, List, [], ◌∷◌, Option}
use Rattle.keyspace.specs.declared.batch.Batch.{Batch}
use Rattle.wire.specs.NextFrame.{TakesFrame}

-- these batches are the next frames of what a reader has left
abbrev pub AreTaken : Option (List ℕ) → Option (List ℕ) → List Batch → Type 0
AreTaken before after [] = before ≡ after
AreTaken before after (b ∷ batches) = (between : Option (List ℕ)) × TakesFrame before between b × AreTaken between after batches

-- the first batches of a reader
abbrev pub AreFirstOf : Option (List ℕ) → List Batch → Type 0
AreFirstOf bytes batches = (rest : Option (List ℕ)) × AreTaken bytes rest batches
