-- Streams of batches, such as the frames of a file. This project's own.
use Rattle.std.specs.Prelude.{◌≡◌, ◌⊎◌, ℕ, List, [], ◌∷◌, Option, IfSome}
use Rattle.keyspace.specs.declared.batch.Batch.{Batch}
use Rattle.wire.specs.declared.error.WireError.{WireError}
use Rattle.wire.specs.NextFrame.{IsFaultOf}

module _ {X : Type 0} where
  -- from the first state to the last, the stream gives these batches, in order
  abbrev pub GivesEach : (X → X → Batch → Type 0) → X → X → List Batch → Type 0
  GivesEach Gives first last [] = last ≡ first
  GivesEach Gives first last (batch ∷ rest) =
      (between : X) × Gives first between batch × GivesEach Gives between last rest

  -- it gives no more batches from one state to the other
  abbrev pub EndsWith : (X → X → Type 0) → X → X → Type 0
  EndsWith Stays left last = (last ≡ left) ⊎ Stays left last

-- the bytes left begin with this fault, if the reader reports them
abbrev pub IsFaultAt : Option (List ℕ) → WireError → Type 0
IsFaultAt left e = IfSome left (IsFaultOf e)
