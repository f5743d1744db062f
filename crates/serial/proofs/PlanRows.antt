-- The worked examples of plans that are no functions of the read ranges.
use Rattle.std.proofs.Common.{◌≡◌, ◌≢◌, ℕ, zero, suc, ◌||◌, Bool, true, false, cond, if◌then◌else◌, List, [], ◌∷◌, refl, sym, ◌∙◌, ap, subst, inl, inr}
use Rattle.std.specs.Prelude.{Some, None, slice_get}
use Rattle.std.proofs.Math.Path.{fun_ext}
use Rattle.keyspace.specs.declared.txn.Txn.{Txn}
use Rattle.keys.specs.Key.{IsBytes, is_before, IsBefore}
use Rattle.keys.proofs.callers.Booleans.{and_right, or_either}
use Rattle.keys.proofs.callers.KeyOrder.{before_trans}
use Rattle.keyspace.specs.declared.TheConstants.{WINDOW}
use Rattle.keyspace.specs.Processed.{Processed}
use Rattle.keyspace.specs.Laws.{RunsAreChains}
use Rattle.keyspace.specs.Rows.{Limits, is_range, letter, txn, ab, bc, cd, xy}
use Rattle.serial.specs.Commits.{IsCommitted, holds}
use Rattle.serial.specs.Stores.{Store, in_ranges, SameIn, Plan, KeepsToWrites, AllKeepToWrites, read_store, place_store}
use Rattle.serial.specs.Serial.{ReadsAreCurrent, ReadsOnlyDeclared, AllReadOnlyDeclared, IsEffect, plan_of}
use Rattle.serial.specs.RowStores.{first_store, value_or_empty, write_by, set, letter_bytes, at_letter, at_a, at_x}
use Rattle.serial.specs.RowLists.{four, chain_of}
use Rattle.serial.specs.PlanRows.{look_up, look_up_plan, look_up_txn, index_chain, index_plans, add_to_a, addition, addition_chain, addition_plans, snapshot_chain, snapshot_plans, PlanRows}
use Rattle.serial.proofs.Reading.{chain_current}
use Rattle.serial.proofs.Isolation.{current_isolated}
use Rattle.serial.proofs.EffectRows.{found_at}

-- there is no transaction in an empty list
pub none_there : (j : ℕ) (t : Txn) → slice_get [] j ≡ Some t → ⊥
none_there j t h = cc

-- the value of an option that has one
pub same_value : (t u : Txn) → Some t ≡ Some u → t ≡ u
same_value t u h = cc

-- a plan that puts values at the keys of a transaction's write ranges keeps to them
pub keeps_by : (t : Txn) (value : Store → Store → Store) → KeepsToWrites t (write_by t.writes value)
keeps_by t value read changed key bytes h = rw h refl

-- a plan puts the same if the values are the same
pub declared_by : (t : Txn) (value : Store → Store → Store) (read changed : Store)
    → ((other : Store) → SameIn t.reads read other → (key : List ℕ) (bytes : IsBytes key)
    → value read changed key bytes ≡ value other changed key bytes)
    → ReadsOnlyDeclared t (write_by t.writes value) read changed
declared_by t value read changed values other same =
    fun_ext (λ key. fun_ext (λ bytes.
    elim (in_ranges t.writes key) as (λ b. cond b (value read changed key bytes) (changed key bytes)
    ≡ cond b (value other changed key bytes) (changed key bytes)) [
      | true ↦ values other same key bytes
      | false ↦ refl
    ]))

-- a test, or nothing else
not_false : (a : Bool) → (a || false) ≡ true → a ≡ true
not_false true h = refl
not_false false h = h

-- 1 and 2 are not the same value
differ : (one other : List ℕ) → one ≡ 1 ∷ [] → other ≡ 2 ∷ [] → Some one ≡ Some other → ⊥
differ one other h k same = cc

-- nor are 97 and 1
found_differ : (one other : List ℕ) → one ≡ 97 ∷ [] → other ≡ 1 ∷ [] → Some one ≡ Some other → ⊥
found_differ one other h k same = cc

-- nor are 97 and 8 more, and 8
sums_differ : (one other : List ℕ) → one ≡ 105 ∷ [] → other ≡ 8 ∷ [] → Some one ≡ Some other → ⊥
sums_differ one other h k same = cc

module _ (limits : Limits) where
  -- what holds of each of the four transactions holds of each that is committed
  each_of_four : (t u v w : Txn) (P : ℕ → ℕ → Processed → Txn → Type 0)
      → ((p : Processed) → P 1 0 p t) → ((p : Processed) → P 2 0 p u) → ((p : Processed) → P 3 0 p v)
      → ((p : Processed) → P 4 0 p w)
      → (i j : ℕ) (p : Processed) (x : Txn) → IsCommitted (chain_of limits t u v w) i j p x → P i j p x
  each_of_four t u v w P pt pu pv pw zero j p x c =
      absurd (none_there j x (found_at (chain_of limits t u v w) 0 j p x c))
  each_of_four t u v w P pt pu pv pw (suc zero) zero p x c =
      subst (P 1 0 p) (same_value t x (found_at (chain_of limits t u v w) 1 0 p x c)) (pt p)
  each_of_four t u v w P pt pu pv pw (suc zero) (suc j) p x c =
      absurd (none_there j x (found_at (chain_of limits t u v w) 1 (suc j) p x c))
  each_of_four t u v w P pt pu pv pw (suc (suc zero)) zero p x c =
      subst (P 2 0 p) (same_value u x (found_at (chain_of limits t u v w) 2 0 p x c)) (pu p)
  each_of_four t u v w P pt pu pv pw (suc (suc zero)) (suc j) p x c =
      absurd (none_there j x (found_at (chain_of limits t u v w) 2 (suc j) p x c))
  each_of_four t u v w P pt pu pv pw (suc (suc (suc zero))) zero p x c =
      subst (P 3 0 p) (same_value v x (found_at (chain_of limits t u v w) 3 0 p x c)) (pv p)
  each_of_four t u v w P pt pu pv pw (suc (suc (suc zero))) (suc j) p x c =
      absurd (none_there j x (found_at (chain_of limits t u v w) 3 (suc j) p x c))
  each_of_four t u v w P pt pu pv pw (suc (suc (suc (suc zero)))) zero p x c =
      subst (P 4 0 p) (same_value w x (found_at (chain_of limits t u v w) 4 0 p x c)) (pw p)
  each_of_four t u v w P pt pu pv pw (suc (suc (suc (suc zero)))) (suc j) p x c =
      absurd (none_there j x (found_at (chain_of limits t u v w) 4 (suc j) p x c))
  each_of_four t u v w P pt pu pv pw (suc (suc (suc (suc (suc i))))) j p x c =
      absurd (none_there j x (found_at (chain_of limits t u v w) (suc (suc (suc (suc (suc i))))) j p x c))

  -- A look-up in an index.

  -- the value that the look-up puts
  abbrev look_up_value : Store → Store → Store
  look_up_value read changed key bytes = look_up limits read (value_or_empty (at_a limits read))

  -- the value that a reader copies
  abbrev copied : (n : ℕ) → is_range (letter n) (letter n) ≡ true → Store → Store → Store
  copied n h read changed key bytes = at_letter limits n h read

  abbrev blind_ab : Txn
  blind_ab = txn limits 0 false [] (ab limits ∷ []) refl

  abbrev blind_cd : Txn
  blind_cd = txn limits 0 false [] (cd limits ∷ []) refl

  index_keeps : AllKeepToWrites (index_chain limits) (index_plans limits)
  index_keeps =
      each_of_four blind_ab blind_cd (look_up_txn limits) blind_ab (λ i j p t. KeepsToWrites t (index_plans limits i j))
      (λ p. keeps_by blind_ab _) (λ p. keeps_by blind_cd _) (λ p. keeps_by (look_up_txn limits) _)
      (λ p. keeps_by blind_ab _)

  -- in a store whose key a names c, the look-up finds the value at c, and so it does in any store with the same at both
  look_up_declared : (read changed : Store) → at_a limits read ≡ Some (letter 99)
      → ReadsOnlyDeclared (look_up_txn limits) (look_up_plan limits) read changed
  look_up_declared read changed named =
      declared_by (look_up_txn limits) (look_up_value) read changed (λ other same key bytes.
      let at_a_same = same (letter 97) (letter_bytes limits 97 refl) refl in
      let at_c_same = same (letter 99) (letter_bytes limits 99 refl) refl in
      ap (λ o. look_up limits read (value_or_empty o)) named
      ∙ at_c_same
      ∙ ap (λ o. look_up limits other (value_or_empty o)) (sym named ∙ at_a_same))

  index_declared : AllReadOnlyDeclared first_store (index_plans limits) (index_chain limits)
  index_declared =
      each_of_four blind_ab blind_cd (look_up_txn limits) blind_ab
      (λ i j p t. ReadsOnlyDeclared t (index_plans limits i j)
      (read_store first_store (index_plans limits) (index_chain limits) i j p t)
      (place_store first_store (index_plans limits) (index_chain limits) i j p))
      (λ p other same. refl) (λ p other same. refl) (λ p. look_up_declared _ _ refl) (λ p other same. refl)

  -- a store in which each key below x names x, and each other one has this value
  abbrev naming_x : List ℕ → Store
  naming_x value key bytes = if is_before key (letter 120) then Some (letter 120) else Some value

  -- each key of the read ranges is below x
  read_is_below : (key : List ℕ) → in_ranges (ab limits ∷ cd limits ∷ []) key ≡ true → IsBefore key (letter 120)
  read_is_below key h =
      elim (or_either (holds (ab limits) key) (holds (cd limits) key || false) h) [
        | inl in_ab ↦ before_trans key (letter 98) (letter 120) (and_right _ _ in_ab) refl
        | inr in_cd ↦ before_trans key (letter 100) (letter 120)
            (and_right _ _ (not_false (holds (cd limits) key) in_cd)) refl
      ]

  -- so such stores are the same there
  naming_same : (value other : List ℕ) → SameIn (look_up_txn limits).reads (naming_x value) (naming_x other)
  naming_same value other key bytes read =
      let below = read_is_below key read in rw below refl

  look_up_no_effect : (effect : Store → Store) → IsEffect (look_up_txn limits) effect
      → look_up_plan limits ≡ plan_of (look_up_txn limits) effect → ⊥
  look_up_no_effect effect is_effect is =
      let x_bytes = letter_bytes limits 120 refl in
      let found = λ (read : Store). ap (λ (plan : Plan). at_x limits (plan read first_store)) is in
      differ _ _ refl refl (found (naming_x (1 ∷ []))
      ∙ is_effect.reads (naming_x (1 ∷ [])) (naming_x (2 ∷ [])) (naming_same (1 ∷ []) (2 ∷ [])) (letter 120) x_bytes refl
      ∙ sym (found (naming_x (2 ∷ []))))

  -- Atomic additions.

  abbrev reader_ab : Txn
  reader_ab = txn limits 250 false (ab limits ∷ []) (bc limits ∷ []) refl

  addition_keeps : AllKeepToWrites (addition_chain limits) (addition_plans limits)
  addition_keeps =
      each_of_four (addition limits) (addition limits) reader_ab (addition limits)
      (λ i j p t. KeepsToWrites t (addition_plans limits i j))
      (λ p. keeps_by (addition limits) _) (λ p. keeps_by (addition limits) _) (λ p. keeps_by reader_ab _)
      (λ p. keeps_by (addition limits) _)

  addition_declared : AllReadOnlyDeclared first_store (addition_plans limits) (addition_chain limits)
  addition_declared =
      each_of_four (addition limits) (addition limits) reader_ab (addition limits)
      (λ i j p t. ReadsOnlyDeclared t (addition_plans limits i j)
      (read_store first_store (addition_plans limits) (addition_chain limits) i j p t)
      (place_store first_store (addition_plans limits) (addition_chain limits) i j p))
      (λ p other same. refl) (λ p other same. refl)
      (λ p. declared_by reader_ab (copied 97 refl) _ _ (λ other same key bytes.
      same (letter 97) (letter_bytes limits 97 refl) refl))
      (λ p other same. refl)

  addition_no_effect : (effect : Store → Store) → add_to_a limits 8 ≡ plan_of (addition limits) effect → ⊥
  addition_no_effect effect is =
      let left = λ (changed : Store). ap (λ (plan : Plan). at_a limits (plan first_store changed)) is in
      sums_differ _ _ refl refl (left first_store ∙ sym (left (λ key bytes. None)))

  -- A snapshot reader.

  abbrev blind_xy : Txn
  blind_xy = txn limits 50 false [] (xy limits ∷ []) refl

  abbrev reader_xy : Txn
  reader_xy = txn limits 250 false (xy limits ∷ []) (cd limits ∷ []) refl

  abbrev later_reader_ab : Txn
  later_reader_ab = txn limits 150 false (ab limits ∷ []) (bc limits ∷ []) refl

  snapshot_keeps : AllKeepToWrites (snapshot_chain limits) (snapshot_plans limits)
  snapshot_keeps =
      each_of_four blind_ab blind_xy reader_xy later_reader_ab
      (λ i j p t. KeepsToWrites t (snapshot_plans limits i j))
      (λ p. keeps_by blind_ab _) (λ p. keeps_by blind_xy _) (λ p. keeps_by reader_xy _)
      (λ p. keeps_by later_reader_ab _)

  -- each transaction but the snapshot reader reads only what it declares
  others_declared : (i j : ℕ) (p : Processed) (t : Txn) → IsCommitted (snapshot_chain limits) i j p t → i ≢ 2
      → ReadsOnlyDeclared t (snapshot_plans limits i j)
      (read_store first_store (snapshot_plans limits) (snapshot_chain limits) i j p t)
      (place_store first_store (snapshot_plans limits) (snapshot_chain limits) i j p)
  others_declared =
      each_of_four blind_ab blind_xy reader_xy later_reader_ab
      (λ i j p t. i ≢ 2 → ReadsOnlyDeclared t (snapshot_plans limits i j)
      (read_store first_store (snapshot_plans limits) (snapshot_chain limits) i j p t)
      (place_store first_store (snapshot_plans limits) (snapshot_chain limits) i j p))
      (λ p is_other other same. refl) (λ p is_other. absurd (is_other refl))
      (λ p is_other. declared_by reader_xy (copied 120 refl) _ _ (λ other same key bytes.
      same (letter 120) (letter_bytes limits 120 refl) refl))
      (λ p is_other. declared_by later_reader_ab (copied 97 refl) _ _ (λ other same key bytes.
      same (letter 97) (letter_bytes limits 97 refl) refl))

  module _ (are_chains : RunsAreChains) where
    -- so each may be run at its place
    harms_no_other : (i j : ℕ) (p : Processed) (t : Txn) → IsCommitted (snapshot_chain limits) i j p t → i ≢ 2
        → ReadsAreCurrent first_store (snapshot_plans limits) (snapshot_chain limits) i j p t
        × (snapshot_plans limits i j (read_store first_store (snapshot_plans limits) (snapshot_chain limits) i j p t)
        (place_store first_store (snapshot_plans limits) (snapshot_chain limits) i j p)
        ≡ snapshot_plans limits i j (place_store first_store (snapshot_plans limits) (snapshot_chain limits) i j p)
        (place_store first_store (snapshot_plans limits) (snapshot_chain limits) i j p))
    harms_no_other i j p t c is_other =
        let isolated = current_isolated (snapshot_chain limits) (chain_current WINDOW (snapshot_chain limits)
        (are_chains WINDOW (four limits blind_ab blind_xy reader_xy later_reader_ab)))
        first_store (snapshot_plans limits) snapshot_keeps i j p t c in
        (isolated.reads, isolated.place (others_declared i j p t c is_other))

    pub rows : PlanRows limits
    rows = record {
      index_lookup = refl;
      index_lookup_keeps = index_keeps;
      index_lookup_declared = index_declared;
      index_lookup_is_no_effect = look_up_no_effect;
      atomic_addition = refl;
      atomic_addition_keeps = addition_keeps;
      atomic_addition_declared = addition_declared;
      atomic_addition_is_no_effect = addition_no_effect;
      snapshot_reader = refl;
      snapshot_reader_differs = found_differ _ _ refl refl;
      snapshot_reader_undeclared = λ declared.
          found_differ _ _ refl refl (ap (at_x limits) (declared (set (ab limits ∷ []) (1 ∷ []) first_store first_store) (λ key bytes read. cc)));
      snapshot_reader_harms_no_other = harms_no_other;
    }
