-- Worked examples of plans that are no functions of the read ranges: a look-up in an index, atomic additions, a snapshot reader.
use Rattle.std.specs.Prelude.{
  ◌≡◌,
  ◌≢◌,
  ℕ,
  ◌+◌,
  ◌%◌,
  Bool,
  false,
  true,
  List,
  [],
  ◌∷◌,
  Option,
  Some,
  None,
  refl,
}
use Rattle.keyspace.specs.declared.txn.Txn.{Txn}
use Rattle.keyspace.specs.Processed.{Processed}
use Rattle.keyspace.specs.Rows.{Limits, is_range, committed_entry, txn, ab, bc, cd, xy}
use Rattle.serial.specs.Commits.{IsCommitted}
use Rattle.serial.specs.Stores.{Store, Plan, Plans, AllKeepToWrites, stores_after, read_store, place_store}
use Rattle.serial.specs.Serial.{ReadsAreCurrent, ReadsOnlyDeclared, AllReadOnlyDeclared, IsEffect, plan_of}
use Rattle.serial.specs.RowStores.{byte, first_store, value_or_empty, no_change, write_by, set, plans_by, HasTxn, at_a, at_x, shown}
use Rattle.serial.specs.RowLists.{chain_of}

-- the sum with a number, of one byte; no value counts as 0
abbrev pub plus : ℕ → Option (List ℕ) → Option (List ℕ)
plus n None = byte n
plus n (Some []) = byte n
plus n (Some (b ∷ value)) = byte ((b + n) % 256)

module _ (limits : Limits) where
  -- A look-up in an index.

  -- the value at a key that may be none
  abbrev pub look_up_if : Store → (key : List ℕ) (is : Bool) → is_range key key ≡ is → Option (List ℕ)
  look_up_if store key true h = store key (limits.range key key h).0.bytes
  look_up_if store key false h = None

  abbrev pub look_up : Store → List ℕ → Option (List ℕ)
  look_up store key = look_up_if store key (is_range key key) refl

  -- at x, the value at the key that the value at a names
  abbrev pub look_up_plan : Plan
  look_up_plan =
      write_by (xy limits ∷ []) (λ read changed key bytes. look_up read (value_or_empty (at_a limits read)))

  -- R[a,b) R[c,d)@250 W[x,y)
  abbrev pub look_up_txn : Txn
  look_up_txn = txn limits 250 false (ab limits ∷ cd limits ∷ []) (xy limits ∷ []) refl

  -- two blind writes, which make a name c and give c another value, the look-up, and a blind write that makes a name b
  abbrev pub index_chain : List Processed
  index_chain =
      chain_of limits (txn limits 0 false [] (ab limits ∷ []) refl) (txn limits 0 false [] (cd limits ∷ []) refl)
      look_up_txn (txn limits 0 false [] (ab limits ∷ []) refl)

  abbrev pub index_plans : Plans
  index_plans =
      plans_by (no_change ∷ set (ab limits ∷ []) (99 ∷ []) ∷ set (cd limits ∷ []) (7 ∷ []) ∷ look_up_plan
      ∷ set (ab limits ∷ []) (98 ∷ []) ∷ [])

  -- Atomic additions.

  abbrev pub add_to_a : ℕ → Plan
  add_to_a n = write_by (ab limits ∷ []) (λ read changed key bytes. plus n (changed key bytes))

  -- at b, the value at a
  abbrev pub copy_a_to_b : Plan
  copy_a_to_b = write_by (bc limits ∷ []) (λ read changed key bytes. at_a limits read)

  -- W[a,b)@50
  abbrev pub addition : Txn
  addition = txn limits 50 false [] (ab limits ∷ []) refl

  -- Two additions at one snapshot, a reader R[a,b)@250 W[b,c), and a later addition at the same snapshot as the first two.
  abbrev pub addition_chain : List Processed
  addition_chain =
      chain_of limits addition addition (txn limits 250 false (ab limits ∷ []) (bc limits ∷ []) refl) addition

  abbrev pub addition_plans : Plans
  addition_plans =
      plans_by (no_change ∷ add_to_a 5 ∷ add_to_a 8 ∷ copy_a_to_b ∷ add_to_a 1 ∷ [])

  -- A snapshot reader.

  -- at x, the value at a
  abbrev pub copy_a_to_x : Plan
  copy_a_to_x = write_by (xy limits ∷ []) (λ read changed key bytes. at_a limits read)

  -- at c, the value at x
  abbrev pub copy_x_to_c : Plan
  copy_x_to_c = write_by (cd limits ∷ []) (λ read changed key bytes. at_x limits read)

  -- A blind write W[a,b), then W[x,y)@50, which looks at a and doesn't declare it, then R[x,y)@250 W[c,d) and R[a,b)@150 W[b,c).
  abbrev pub snapshot_chain : List Processed
  snapshot_chain =
      chain_of limits (txn limits 0 false [] (ab limits ∷ []) refl) (txn limits 50 false [] (xy limits ∷ []) refl)
      (txn limits 250 false (xy limits ∷ []) (cd limits ∷ []) refl)
      (txn limits 150 false (ab limits ∷ []) (bc limits ∷ []) refl)

  abbrev pub snapshot_plans : Plans
  snapshot_plans =
      plans_by (no_change ∷ set (ab limits ∷ []) (1 ∷ []) ∷ copy_a_to_x ∷ copy_x_to_c ∷ copy_a_to_b ∷ [])

  pub record PlanRows : Type 0 where
    -- All are committed, and the look-up has found 7 at c. The law speaks of these plans, so both stores are the same.
    pub index_lookup : shown limits index_plans index_chain ≡ record {
      verdicts = [] ∷ (committed_entry ∷ []) ∷ (committed_entry ∷ []) ∷ (committed_entry ∷ []) ∷ (committed_entry ∷ []) ∷ [];
      as_run = byte 98 ∷ byte 98 ∷ byte 7 ∷ byte 100 ∷ byte 109 ∷ byte 7 ∷ [];
      serially =
          byte 98 ∷ byte 98 ∷ byte 7 ∷ byte 100 ∷ byte 109 ∷ byte 7 ∷ [];
    }
    pub index_lookup_keeps : AllKeepToWrites index_chain index_plans
    pub index_lookup_declared : AllReadOnlyDeclared first_store index_plans index_chain
    -- It is no function of its read ranges: in stores in which a names x, it would look at x.
    pub index_lookup_is_no_effect :
        HasTxn index_chain 3 0 (λ p t. (effect : Store → Store) → IsEffect t effect → ¬ (index_plans 3 0 ≡ plan_of t effect))
    -- Both additions count, also the one that has read below the other's version. b has what the reader found.
    pub atomic_addition : shown limits addition_plans addition_chain ≡ record {
      verdicts = [] ∷ (committed_entry ∷ []) ∷ (committed_entry ∷ []) ∷ (committed_entry ∷ []) ∷ (committed_entry ∷ []) ∷ [];
      as_run =
          byte 111 ∷ byte 110 ∷ byte 99 ∷ byte 100 ∷ byte 109 ∷ byte 120 ∷ [];
      serially =
          byte 111 ∷ byte 110 ∷ byte 99 ∷ byte 100 ∷ byte 109 ∷ byte 120 ∷ [];
    }
    pub atomic_addition_keeps : AllKeepToWrites addition_chain addition_plans
    pub atomic_addition_declared : AllReadOnlyDeclared first_store addition_plans addition_chain
    -- what an addition leaves is no function of the store that it has read
    pub atomic_addition_is_no_effect :
        HasTxn addition_chain 2 0 (λ p t. (effect : Store → Store) → ¬ (addition_plans 2 0 ≡ plan_of t effect))
    -- The snapshot reader has found what a had at first. Run after the blind write, it would find 1. The reader of x copies that.
    pub snapshot_reader : shown limits snapshot_plans snapshot_chain ≡ record {
      verdicts = [] ∷ (committed_entry ∷ []) ∷ (committed_entry ∷ []) ∷ (committed_entry ∷ []) ∷ (committed_entry ∷ []) ∷ [];
      as_run = byte 1 ∷ byte 1 ∷ byte 97 ∷ byte 100 ∷ byte 109 ∷ byte 97 ∷ [];
      serially = byte 1 ∷ byte 1 ∷ byte 1 ∷ byte 100 ∷ byte 109 ∷ byte 1 ∷ [];
    }
    pub snapshot_reader_differs :
        at_x limits (stores_after first_store snapshot_plans snapshot_chain).as_run
        ≢ at_x limits (stores_after first_store snapshot_plans snapshot_chain).serially
    pub snapshot_reader_undeclared :
        HasTxn snapshot_chain 2 0 (λ p t. ¬ ReadsOnlyDeclared t (snapshot_plans 2 0)
        (read_store first_store snapshot_plans snapshot_chain 2 0 p t)
        (place_store first_store snapshot_plans snapshot_chain 2 0 p))
    -- The reads of the others are current, and each may be run at its place.
    pub snapshot_reader_harms_no_other :
        (i j : ℕ) (p : Processed) (t : Txn) → IsCommitted snapshot_chain i j p t → i ≢ 2
        → ReadsAreCurrent first_store snapshot_plans snapshot_chain i j p t
        × (snapshot_plans i j (read_store first_store snapshot_plans snapshot_chain i j p t)
        (place_store first_store snapshot_plans snapshot_chain i j p)
        ≡ snapshot_plans i j (place_store first_store snapshot_plans snapshot_chain i j p)
        (place_store first_store snapshot_plans snapshot_chain i j p))
