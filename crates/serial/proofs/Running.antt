-- If reads are current and committed transactions read only what they declare, both ways to run them leave the same store.
use Rattle.std.proofs.Common.{◌≡◌, ℕ, ◌+◌, Bool, true, false, cond, List, take, refl, sym, ◌∙◌, ap, subst}
use Rattle.std.specs.Prelude.{IsTrue}
use Rattle.std.proofs.Math.Path.{fun_ext}
use Rattle.keyspace.specs.declared.txn.Txn.{Txn}
use Rattle.keyspace.specs.Processed.{Processed}
use Rattle.serial.specs.Commits.{IsCommitted, Current}
use Rattle.serial.specs.Stores.{Store, in_ranges, Plan, KeepsToWrites, Plans, AllKeepToWrites, Stores, commit, stores_after, stores_at, place_store}
use Rattle.serial.specs.Serial.{
  ReadsOnlyDeclared,
  AllReadOnlyDeclared,
  IsSerial,
  Serializable,
  Preserves,
  InvariantsHold,
  IsEffect,
  plan_of,
  EffectsAreSerializable,
}
use Rattle.serial.proofs.Along.{holds_after, holds_at}
use Rattle.serial.proofs.Isolation.{current_isolated}

-- both ways leave the same store
abbrev pub AreSame : Stores → Type 0
AreSame s = s.as_run ≡ s.serially

module _ (first : Store) (plans : Plans) (ps : List Processed) (current : Current ps)
    (keep : AllKeepToWrites ps plans) (declared : AllReadOnlyDeclared first plans ps) where
  -- a committed transaction leaves the same store if it reads the store that it changes
  pub reads_now : (i j : ℕ) (p : Processed) (t : Txn) → IsCommitted ps i j p t
      → (commit first t (plans i j) (stores_at first plans ps i j p)).as_run
      ≡ plans i j (place_store first plans ps i j p) (place_store first plans ps i j p)
  reads_now i j p t c = (current_isolated ps current first plans keep i j p t c).place (declared i j p t c)

  -- so it leaves both stores the same
  commit_same : (i j : ℕ) (p : Processed) (t : Txn) → IsCommitted ps i j p t
      → AreSame (stores_at first plans ps i j p) → AreSame (commit first t (plans i j) (stores_at first plans ps i j p))
  commit_same i j p t c same = reads_now i j p t c ∙ ap (λ store. plans i j store store) same

  -- so they are after any number of batches
  pub same_after : (i : ℕ) → AreSame (stores_after first plans (take i ps))
  same_after i = holds_after first plans ps AreSame refl commit_same (λ version s same. same) i

  -- each committed transaction is serial
  each_serial : (i j : ℕ) (p : Processed) (t : Txn) → IsCommitted ps i j p t → IsSerial first plans ps i j p t
  each_serial i j p t c =
      let same = holds_at first plans ps AreSame refl commit_same (λ version s same. same) i p c.batch in
      let reads = (current_isolated ps current first plans keep i j p t c).reads in
      record {
        reads = λ key bytes read. reads key bytes read ∙ ap (λ store. store key bytes) (same j);
        store = same (j + 1);
      }

  -- an invariant that each committed transaction preserves holds after any number of batches
  invariant_after : (invariant : Store → Bool)
      → ((i j : ℕ) (p : Processed) (t : Txn) → IsCommitted ps i j p t → Preserves invariant (plans i j))
      → IsTrue (invariant first) → (batches : ℕ) → IsTrue (invariant (stores_after first plans (take batches ps)).as_run)
  invariant_after invariant preserved begins batches =
      holds_after first plans ps (λ s. IsTrue (invariant s.as_run)) begins
      (λ i j p t c holds. subst (λ store. IsTrue (invariant store)) (sym (reads_now i j p t c))
      (preserved i j p t c (place_store first plans ps i j p) holds))
      (λ version s holds. holds) batches

-- if reads are current, the committed transactions are serializable
pub current_serializable : (ps : List Processed) → Current ps → Serializable ps
current_serializable ps current first plans keep declared = each_serial first plans ps current keep declared

-- and invariants hold
pub current_invariants : (ps : List Processed) → Current ps → InvariantsHold ps
current_invariants ps current first plans keep declared = invariant_after first plans ps current keep declared

-- Functions of the read ranges.

-- the plan of a function keeps to the write ranges
pub effect_keeps : (t : Txn) (effect : Store → Store) (plan : Plan) → plan ≡ plan_of t effect → KeepsToWrites t plan
effect_keeps t effect plan is =
    let keeps : KeepsToWrites t (plan_of t effect) = λ read changed key bytes h. rw h refl in
    subst (KeepsToWrites t) (sym is) keeps

-- and reads only what is declared, whatever it reads and changes
pub effect_declared : (t : Txn) (effect : Store → Store) (plan : Plan) → IsEffect t effect → plan ≡ plan_of t effect
    → (read changed : Store) → ReadsOnlyDeclared t plan read changed
effect_declared t effect plan is_effect is read changed =
    let declared : ReadsOnlyDeclared t (plan_of t effect) read changed = λ other same.
    fun_ext (λ key. fun_ext (λ bytes.
    elim (in_ranges t.writes key) as (λ b. in_ranges t.writes key ≡ b
    → cond b (effect read key bytes) (changed key bytes) ≡ cond b (effect other key bytes) (changed key bytes)) [
      | true ↦ λ e. is_effect.reads read other same key bytes e
      | false ↦ λ e. refl
    ] refl)) in
    subst (λ plan. ReadsOnlyDeclared t plan read changed) (sym is) declared

-- so if reads are current, functions of the read ranges are serializable
pub current_effects : (ps : List Processed) → Current ps → EffectsAreSerializable ps
current_effects ps current first plans effects are =
    current_serializable ps current first plans
    (λ i j p t c. let is = are i j p t c in effect_keeps t (effects i j) (plans i j) is.1)
    (λ i j p t c. let is = are i j p t c in
    effect_declared t (effects i j) (plans i j) is.0 is.1 _ _)
