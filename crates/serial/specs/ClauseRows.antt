-- Worked examples of lists that aren't chains, and the clause of the laws that fails on each.
use Rattle.std.specs.Prelude.{◌≡◌, ◌+◌, false, List, [], ◌∷◌, Some, pos, take, refl}
use Rattle.keyspace.specs.Processed.{Processed}
use Rattle.keyspace.specs.Rows.{Limits, txn, ab, xy, write_ab}
use Rattle.serial.specs.Commits.{Current}
use Rattle.serial.specs.Stores.{Plans, at_snapshot, SameIn, stores_after, stores_at, read_store, place_store}
use Rattle.serial.specs.Serial.{ReadsAreCurrent, RunsAtItsPlace, IsPlace, RealTime}
use Rattle.serial.specs.RowStores.{first_store, plans_of, HasTxn, at_a, at_x}
use Rattle.serial.specs.RowLists.{with_conflicts_committed, with_batches_swapped, chain, chain_of}

module _ (limits : Limits) where
  -- the chain, its one conflict made committed: transaction 1 of batch 2, R[a,b)@50 W[x,y)
  abbrev pub flipped_chain : List Processed
  flipped_chain = with_conflicts_committed (chain limits)

  abbrev pub flipped_plans : Plans
  flipped_plans = plans_of flipped_chain

  -- the chain, the batches of the versions 100 and 200 in each other's place
  abbrev pub swapped_chain : List Processed
  swapped_chain = with_batches_swapped (chain limits)

  -- W[a,b) at the versions 100 and 200, in each other's place, then R[a,b)@150 W[x,y), made committed, and an empty transaction
  abbrev pub swapped_writers : List Processed
  swapped_writers =
      with_batches_swapped (with_conflicts_committed (chain_of limits (write_ab limits) (write_ab limits)
      (txn limits 150 false (ab limits ∷ []) (xy limits ∷ []) refl) (txn limits 0 false [] [] refl)))

  pub record ClauseRows : Type 0 where
    -- At a, it has read what was there before version 100. At its place it finds what was written there at version 100.
    pub reads_fails : HasTxn flipped_chain 2 1 (λ p t.
        (at_a limits (read_store first_store flipped_plans flipped_chain 2 1 p t) ≡ Some (97 ∷ []))
        × (at_a limits (place_store first_store flipped_plans flipped_chain 2 1 p) ≡ Some (1 ∷ 0 ∷ []))
        × ¬ ReadsAreCurrent first_store flipped_plans flipped_chain 2 1 p t)
    -- It leaves another store if it reads the store at its place.
    pub place_fails : HasTxn flipped_chain 2 1 (λ p t.
        let read = read_store first_store flipped_plans flipped_chain 2 1 p t in
        let place = place_store first_store flipped_plans flipped_chain 2 1 p in
        (at_x limits (flipped_plans 2 1 read place) ≡ Some (2 ∷ 1 ∷ 97 ∷ []))
        × (at_x limits (flipped_plans 2 1 place place) ≡ Some (2 ∷ 1 ∷ 1 ∷ 0 ∷ []))
        × ¬ RunsAtItsPlace first_store flipped_plans flipped_chain 2 1 p t)
    -- Run one at a time, it finds at a what it hasn't read at its snapshot.
    pub serial_reads_fails : HasTxn flipped_chain 2 1 (λ p t.
        (at_a limits (stores_at first_store flipped_plans flipped_chain 2 1 p).serially ≡ Some (1 ∷ 0 ∷ []))
        × ¬ SameIn t.reads (read_store first_store flipped_plans flipped_chain 2 1 p t)
        (stores_at first_store flipped_plans flipped_chain 2 1 p).serially)
    -- After it, the two stores have different values at x.
    pub store_fails : HasTxn flipped_chain 2 1 (λ p t.
        let after = stores_at first_store flipped_plans flipped_chain 2 (1 + 1) p in
        (at_x limits after.as_run ≡ Some (2 ∷ 1 ∷ 97 ∷ [])) × (at_x limits after.serially ≡ Some (2 ∷ 1 ∷ 1 ∷ 0 ∷ []))
        × ¬ (after.as_run ≡ after.serially))
    -- A reader at snapshot 250 finds at x what no place of the commit order has, run one at a time. The only place is after the
    -- first three batches.
    pub serial_place_fails :
        (at_x limits (at_snapshot (pos 250) first_store (stores_after first_store flipped_plans flipped_chain).after)
        ≡ Some (2 ∷ 1 ∷ 97 ∷ []))
        × (at_x limits (stores_after first_store flipped_plans (take 3 flipped_chain)).serially ≡ Some (2 ∷ 1 ∷ 1 ∷ 0 ∷ []))
        × ¬ IsPlace first_store flipped_plans flipped_chain (pos 250)
    -- As the transactions were run, it finds what the first three batches left: verdicts don't matter there, only versions do.
    pub place_ignores_verdicts :
        at_snapshot (pos 250) first_store (stores_after first_store flipped_plans flipped_chain).after
        ≡ (stores_after first_store flipped_plans (take 3 flipped_chain)).as_run
    pub place_needs_versions : (plans : Plans) → ¬ IsPlace first_store plans swapped_chain (pos 150)
    -- So it is with real time.
    pub real_time_ignores_verdicts : RealTime flipped_chain
    -- The batch of version 100 comes after a batch whose reader has snapshot 100.
    pub later_needs_versions : ¬ RealTime swapped_chain
    -- The reader at snapshot 150 comes after both writers, and its snapshot doesn't include the first of them in the list.
    pub follows_needs_versions : ¬ RealTime swapped_writers
    pub flipped_not_current : ¬ Current flipped_chain
