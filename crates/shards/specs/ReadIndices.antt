-- How indices of read ranges are kept: those of all transactions as one list, and where those of each transaction end.
use Rattle.std.specs.Prelude.{◌≡◌, ℕ, ◌<◌, ◌≤◌, List, [], ◌∷◌, length, slice_range, All}
use Rattle.keyspace.specs.declared.txn.TheConstants.{MAX_RANGES}

-- the parts of the list, in sequence from an index on, each up to its end
abbrev pub parts_from : {X : Type 0} → ℕ → List X → List ℕ → List (List X)
parts_from from xs [] = []
parts_from from xs (end ∷ ends) = slice_range xs from end ∷ parts_from end xs ends

-- the ends rise, from one index to another
abbrev pub AreEnds : ℕ → List ℕ → ℕ → Type 0
AreEnds from [] to = from ≡ to
AreEnds from (end ∷ ends) to = (from ≤ end) × AreEnds end ends to

pub record AreIndices (indices ends : List ℕ) : Type 0 where
  pub ends_fit : AreEnds 0 ends (length indices)
  pub below : All (λ index. index < MAX_RANGES) indices
