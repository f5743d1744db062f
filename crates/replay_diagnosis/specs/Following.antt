-- Which versions batches follow. A chain begins with a batch that follows version -1. This project's own.
use Rattle.std.specs.Prelude.{◌≡◌, ◌≢◌, ℤ, negsuc, ◌≤ℤ◌, List, [], ◌∷◌, ◌++◌, Option, None, Some}
use Rattle.std.specs.List.{AllByRecursion}
use Rattle.keyspace.specs.declared.batch.Batch.{Batch}

-- one of the batches follows this version
abbrev pub Follows : ℤ → List Batch → Type 0
Follows version batches = (before : List Batch) × (batch : Batch) × (after : List Batch)
    × (batches ≡ before ++ batch ∷ after) × (batch.previous ≡ version)

-- no batch follows a version below this one
abbrev pub NoneFollowsBelow : ℤ → List Batch → Type 0
NoneFollowsBelow version batches = AllByRecursion (λ batch. version ≤ℤ batch.previous) batches

-- no batch begins a chain
abbrev pub NoneBegins : List Batch → Type 0
NoneBegins batches = AllByRecursion (λ batch. batch.previous ≢ negsuc 0) batches

-- the least version that one of the batches follows, if there is a batch
abbrev pub HasLeast : List Batch → Option ℤ → Type 0
HasLeast batches None = batches ≡ []
HasLeast batches (Some version) = NoneFollowsBelow version batches × Follows version batches
