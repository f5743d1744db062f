-- What a history keeps of a chain. This project's own.
use Rattle.std.specs.Prelude.{◌≡◌, ℤ, pos, ◌≤ℤ◌, List, ◌++◌, All, None, IfSome}
use Rattle.keyspace.specs.Judged.{edge}
use Rattle.keyspace.specs.Processed.{Processed}
use Rattle.explanations.specs.Explains.{newest_of}

pub record HistoryState : Type 0 where
  -- how far back a transaction may read, in versions
  pub window : ℤ
  -- a transaction with a lower snapshot is too old in every batch to come
  pub edge : ℤ
  -- the batches that may explain a conflict, oldest first
  pub kept : List Processed

-- what holds of each history
pub record IsHistory (h : HistoryState) : Type 0 where
  pub least_window : pos 1 ≤ℤ h.window
  pub natural : pos 0 ≤ℤ h.edge

-- of these batches the last ones are kept; those that were dropped are at or below the edge
pub record DropsUpTo (edge : ℤ) (ps kept : List Processed) : Type 0 where
  pub dropped : List Processed
  pub all : ps ≡ dropped ++ kept
  pub below : All (λ p. p.batch.version ≤ℤ edge) dropped

-- the history keeps the last of these batches
abbrev pub Keeps : List Processed → HistoryState → Type 0
Keeps ps h = DropsUpTo h.edge ps h.kept

-- the history is of these batches, and its edge is not above that of the last one
pub record FollowsChain (h : HistoryState) (ps : List Processed) : Type 0 where
  pub keeps : Keeps ps h
  pub edge : IfSome (newest_of ps) (λ b. h.edge ≤ℤ edge h.window b)
  pub natural : newest_of ps ≡ None → h.edge ≡ pos 0
