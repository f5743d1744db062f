-- The places of a report: indices of read ranges in their transaction, from 0. Source: `conflictingKeyRangeMap` of `ResolveTransactionBatchReply`,
-- FoundationDB 7.1; their order and their limit are this project's own.
use Rattle.std.specs.Prelude.{ℕ, ◌<◌, List, All}
use Rattle.std.specs.List.Sorted.{IsStrictlyIncreasing}
use Rattle.keyspace.specs.declared.txn.TheConstants.{MAX_RANGES}

-- strictly increasing indices of a transaction's read ranges
pub record ArePlaces (places : List ℕ) : Type 0 where
  pub rising : IsStrictlyIncreasing places
  pub below : All (λ place. place < MAX_RANGES) places
