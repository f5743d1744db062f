-- What a processed list is. Source: `Resolver.actor.cpp`, FoundationDB 7.1, where a batch waits until the resolver's
-- version is its previous version.
use Rattle.std.specs.Prelude.{◌≡◌, ℤ, List, ◌∷◌, ◌++◌}
use Rattle.keyspace.specs.declared.batch.Batch.{Batch}
use Rattle.keyspace.specs.declared.reply.Reply.{Reply}
use Rattle.keyspace.specs.Processed.{Processed, version_of}
use Rattle.keyspace.specs.Writes.{Write, writes}
use Rattle.keyspace.specs.Judged.{Judged}

-- p continues the version of those before it, and its reply is right after what they wrote
pub record Continues (IsRight : List Write → Batch → Reply → Type 0) (before : List Processed) (p : Processed)
    : Type 0 where
  pub previous : p.batch.previous ≡ version_of before
  pub judged : IsRight (writes before) p.batch p.reply

-- each of them continues those before it
abbrev pub IsChainBy : (List Write → Batch → Reply → Type 0) → List Processed → Type 0
IsChainBy IsRight ps = (before : List Processed) (p : Processed) (after : List Processed)
    → ps ≡ before ++ p ∷ after → Continues IsRight before p

-- each has the one reply that a scan of all that was committed before gives
abbrev pub IsChain : ℤ → List Processed → Type 0
IsChain window ps = IsChainBy (Judged window) ps
