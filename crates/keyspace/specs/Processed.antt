-- What was processed, for good: nothing ever leaves the list. Source: the version of `Resolver` in
-- `Resolver.actor.cpp`, FoundationDB 7.1; that it starts at -1 is this project's own.
use Rattle.std.specs.Prelude.{ℕ, ℤ, negsuc, List, [], ◌∷◌}
use Rattle.keyspace.specs.declared.batch.Batch.{Batch}
use Rattle.keyspace.specs.declared.reply.Reply.{Reply}

-- a batch, the proxy that it came from, and its reply
pub record Processed : Type 0 where
  pub proxy : ℕ
  pub batch : Batch
  pub reply : Reply

-- the version after these, in order of processing: that of the last batch, or -1
abbrev pub version_of : List Processed → ℤ
version_of [] = negsuc 0
version_of (p ∷ []) = p.batch.version
version_of (p ∷ q ∷ ps) = version_of (q ∷ ps)
