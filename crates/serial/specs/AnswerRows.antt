-- Worked examples of what answers show: an invariant, and a proxy that sends two batches of one version.
use Rattle.std.specs.Prelude.{◌≡◌, ℕ, Bool, false, ◌||◌, if◌then◌else◌, List, [], ◌∷◌, Option, None, is_some, pos, refl, Contains}
use Rattle.keyspace.specs.declared.TheConstants.{WINDOW}
use Rattle.keyspace.specs.declared.txn.Txn.{Txn}
use Rattle.keyspace.specs.declared.batch.Batch.{Batch}
use Rattle.keyspace.specs.declared.reply.Reply.{Reply}
use Rattle.keyspace.specs.Processed.{Processed}
use Rattle.keyspace.specs.Run.{Step, run, part}
use Rattle.keyspace.specs.Rows.{Limits, Replied, plain_answers, committed_entry, conflict_entry, txn, sent, opening, ab, bc, xy, write_ab}
use Rattle.serial.specs.Commits.{IsCommitted}
use Rattle.serial.specs.Stores.{Store, Plan, Plans}
use Rattle.serial.specs.Serial.{InvariantsHold, Preserves}
use Rattle.serial.specs.Replies.{SendsOnce, IsReplyTo}
use Rattle.serial.specs.RowStores.{byte, no_change, write_by, plans_by, at_letter, at_a, shown}
use Rattle.serial.specs.RowLists.{with_conflicts_committed, chain_of}

module _ (limits : Limits) where
  -- Write skew.

  abbrev pub at_b : Store → Option (List ℕ)
  at_b = at_letter limits 98 refl

  -- empties [a, b) if b has a value
  abbrev pub give_up_a : Plan
  give_up_a =
      write_by (ab limits ∷ []) (λ read changed key bytes. if is_some (at_b read) then None else at_a limits read)

  -- empties [b, c) if a has a value
  abbrev pub give_up_b : Plan
  give_up_b =
      write_by (bc limits ∷ []) (λ read changed key bytes. if is_some (at_a limits read) then None else at_b read)

  -- R[a,b) R[b,c)@50 W[a,b)
  abbrev pub gives_up_a : Txn
  gives_up_a = txn limits 50 false (ab limits ∷ bc limits ∷ []) (ab limits ∷ []) refl

  -- R[a,b) R[b,c)@50 W[b,c)
  abbrev pub gives_up_b : Txn
  gives_up_b = txn limits 50 false (ab limits ∷ bc limits ∷ []) (bc limits ∷ []) refl

  -- both have read before either has written
  abbrev pub skew_chain : List Processed
  skew_chain =
      chain_of limits gives_up_a gives_up_b (txn limits 0 false [] [] refl) (txn limits 0 false [] [] refl)

  abbrev pub skew_plans : Plans
  skew_plans = plans_by (no_change ∷ give_up_a ∷ give_up_b ∷ [])

  -- a or b has a value
  abbrev pub one_is_there : Store → Bool
  one_is_there store = is_some (at_a limits store) || is_some (at_b store)

  -- Two batches of one version.

  -- R[a,b)@50 W[x,y)
  abbrev pub unjudged : Txn
  unjudged = txn limits 50 false (ab limits ∷ []) (xy limits ∷ []) refl

  -- W[a,b) at version 100, and another batch of version 100
  abbrev pub sends_twice : List Step
  sends_twice =
      opening limits ∷ sent limits 0 100 (write_ab limits ∷ []) refl ∷ sent limits 0 100 (unjudged ∷ []) refl ∷ []

  pub record AnswerRows : Type 0 where
    -- The second is in conflict, so b keeps its value.
    pub write_skew : shown limits skew_plans skew_chain ≡ record {
      verdicts = [] ∷ (committed_entry ∷ []) ∷ (conflict_entry [] ∷ []) ∷ (committed_entry ∷ []) ∷ (committed_entry ∷ []) ∷ [];
      as_run = None ∷ byte 98 ∷ byte 99 ∷ byte 100 ∷ byte 109 ∷ byte 120 ∷ [];
      serially = None ∷ byte 98 ∷ byte 99 ∷ byte 100 ∷ byte 109 ∷ byte 120 ∷ [];
    }
    -- If it is made committed, neither has a value, though each transaction alone leaves one there.
    pub write_skew_committed : shown limits skew_plans (with_conflicts_committed skew_chain) ≡ record {
      verdicts = [] ∷ (committed_entry ∷ []) ∷ (committed_entry ∷ []) ∷ (committed_entry ∷ []) ∷ (committed_entry ∷ []) ∷ [];
      as_run = None ∷ None ∷ byte 99 ∷ byte 100 ∷ byte 109 ∷ byte 120 ∷ [];
      serially = None ∷ byte 98 ∷ byte 99 ∷ byte 100 ∷ byte 109 ∷ byte 120 ∷ [];
    }
    pub write_skew_preserves : (i j : ℕ) → Preserves one_is_there (skew_plans i j)
    pub write_skew_fails : ¬ InvariantsHold (with_conflicts_committed skew_chain)
    -- The second batch of version 100 is answered with the reply to the first, as a repeat of it. Its transaction was never judged.
    pub repeat_of_another_batch : plain_answers sends_twice 0
        ≡ Replied 0 [] ∷ Replied 100 (committed_entry ∷ []) ∷ Replied 100 (committed_entry ∷ []) ∷ []
    pub never_judged : (i j : ℕ) (p : Processed) → ¬ IsCommitted (run WINDOW sends_twice).processed i j p unjudged
    -- So a reply isn't about every batch of its version. The proxy doesn't send once.
    pub about_another : (reply : Reply) (is : IsReplyTo WINDOW sends_twice 0 (part sends_twice 0) reply) → reply.version ≡ pos 100
        → ¬ ((batch : Batch) → Contains (part sends_twice 0) batch → batch.version ≡ reply.version
        → batch.txns ≡ is.entry.batch.txns)
    pub sends_not_once : ¬ SendsOnce (part sends_twice 0)
