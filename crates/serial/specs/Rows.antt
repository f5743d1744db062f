-- The worked examples: lists of processed batches, and what the definitions of `Serial` and `Shards` say of them. Each field has the
-- name of its example.
use Rattle.std.specs.Prelude.{◌≡◌, ◌≢◌, ℕ, List, [], ◌∷◌, Some}
use Rattle.keyspace.specs.declared.txn.Txn.{Txn}
use Rattle.keyspace.specs.Processed.{Processed}
use Rattle.keyspace.specs.Rows.{Limits, committed_entry, conflict_entry}
use Rattle.serial.specs.Commits.{IsCommitted}
use Rattle.serial.specs.Stores.{stores_after}
use Rattle.serial.specs.Serial.{IsEffect, plan_of}
use Rattle.serial.specs.RowStores.{first_store, effects_of, plans_of, at_x, shown}
use Rattle.serial.specs.RowLists.{chain, with_conflicts_committed}
use Rattle.serial.specs.ClauseRows.{ClauseRows}
use Rattle.serial.specs.PlanRows.{PlanRows}
use Rattle.serial.specs.AnswerRows.{AnswerRows}
use Rattle.serial.specs.ShardRows.{ShardRows}

module _ (limits : Limits) where
  pub record WorkedRows : Type 0 where
    -- the effects of any list's transactions here are functions of their read ranges, so the laws speak of them
    pub effects_keep_to_ranges :
        (ps : List Processed) (i j : ℕ) (p : Processed) (t : Txn) → IsCommitted ps i j p t
        → IsEffect t (effects_of ps i j) × (plans_of ps i j ≡ plan_of t (effects_of ps i j))
    -- A chain with an empty batch, a blind write, a reader of the latest, a reader in conflict that requests a report,
    -- and a reader of an empty range. Another proxy has a reader at an old snapshot, and a reader of what the batch
    -- before wrote. Both stores are the same at the six keys. x stays, since its writer was in conflict. c is made of
    -- what c had at first.
    pub chain_of_all_kinds : shown limits (plans_of (chain limits)) (chain limits) ≡ record {
      verdicts = [] ∷ (committed_entry ∷ []) ∷ (committed_entry ∷ conflict_entry (0 ∷ []) ∷ committed_entry ∷ [])
          ∷ (committed_entry ∷ committed_entry ∷ []) ∷ [];
      as_run = Some (1 ∷ 0 ∷ []) ∷ Some (2 ∷ 0 ∷ 1 ∷ 0 ∷ []) ∷ Some (3 ∷ 0 ∷ 99 ∷ [])
          ∷ Some (3 ∷ 1 ∷ 2 ∷ 0 ∷ 1 ∷ 0 ∷ []) ∷ Some (2 ∷ 2 ∷ []) ∷ Some (120 ∷ []) ∷ [];
      serially = Some (1 ∷ 0 ∷ []) ∷ Some (2 ∷ 0 ∷ 1 ∷ 0 ∷ []) ∷ Some (3 ∷ 0 ∷ 99 ∷ [])
          ∷ Some (3 ∷ 1 ∷ 2 ∷ 0 ∷ 1 ∷ 0 ∷ []) ∷ Some (2 ∷ 2 ∷ []) ∷ Some (120 ∷ []) ∷ [];
    }
    -- The same list, the one conflict made committed. As run, x is made of what a had before version 100; serially, of what
    -- was written there at version 100.
    pub flipped_verdict : shown limits (plans_of (with_conflicts_committed (chain limits))) (with_conflicts_committed (chain limits)) ≡ record {
      verdicts = [] ∷ (committed_entry ∷ []) ∷ (committed_entry ∷ committed_entry ∷ committed_entry ∷ []) ∷ (committed_entry ∷ committed_entry ∷ [])
          ∷ [];
      as_run = Some (1 ∷ 0 ∷ []) ∷ Some (2 ∷ 0 ∷ 1 ∷ 0 ∷ []) ∷ Some (3 ∷ 0 ∷ 99 ∷ [])
          ∷ Some (3 ∷ 1 ∷ 2 ∷ 0 ∷ 1 ∷ 0 ∷ []) ∷ Some (2 ∷ 2 ∷ []) ∷ Some (2 ∷ 1 ∷ 97 ∷ []) ∷ [];
      serially = Some (1 ∷ 0 ∷ []) ∷ Some (2 ∷ 0 ∷ 1 ∷ 0 ∷ []) ∷ Some (3 ∷ 0 ∷ 99 ∷ [])
          ∷ Some (3 ∷ 1 ∷ 2 ∷ 0 ∷ 1 ∷ 0 ∷ []) ∷ Some (2 ∷ 2 ∷ []) ∷ Some (2 ∷ 1 ∷ 1 ∷ 0 ∷ []) ∷ [];
    }
    -- so the two stores have different values at x
    pub flipped_verdict_differs :
        at_x limits (stores_after first_store (plans_of (with_conflicts_committed (chain limits))) (with_conflicts_committed (chain limits))).as_run
        ≢ at_x limits (stores_after first_store (plans_of (with_conflicts_committed (chain limits))) (with_conflicts_committed (chain limits))).serially
    -- the clauses that fail on lists that aren't chains
    pub clauses : ClauseRows limits
    -- plans that are no functions of the read ranges
    pub plans : PlanRows limits
    -- what answers show
    pub answers : AnswerRows limits
    -- several resolvers
    pub shards : ShardRows limits
