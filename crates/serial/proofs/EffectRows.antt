-- The plans of the worked examples that are functions of the read ranges.
use Rattle.std.proofs.Common.{◌≡◌, ℕ, true, false, cond, List, [], ◌∷◌, refl, sym, ap, subst}
use Rattle.std.specs.Prelude.{Some}
use Rattle.keys.specs.declared.range.Range.{Range}
use Rattle.keyspace.specs.declared.txn.Txn.{Txn}
use Rattle.keyspace.specs.Processed.{Processed}
use Rattle.serial.specs.Commits.{IsCommitted, holds}
use Rattle.serial.specs.Stores.{Store, SameIn, AllKeepToWrites}
use Rattle.serial.specs.Serial.{IsEffect, plan_of, AllReadOnlyDeclared}
use Rattle.serial.specs.RowStores.{first_store, value_or_empty, first_read, effect_of, txn_at, effects_of, plan_of_some, plans_of}
use Rattle.serial.proofs.Running.{effect_keeps, effect_declared}

-- stores that are the same in the ranges have the same at the first key of the first
first_read_same : (ranges : List Range) (one other : Store) → SameIn ranges one other
    → first_read ranges one ≡ first_read ranges other
first_read_same [] one other same = refl
first_read_same (range ∷ ranges) one other same =
    let bytes = range.begin_is_key.bytes in
    elim (holds range range.begin) as (λ b. holds range range.begin ≡ b
    → cond b (value_or_empty (one range.begin bytes)) [] ≡ cond b (value_or_empty (other range.begin bytes)) []) [
      | true ↦ λ e. ap value_or_empty (same range.begin bytes (rw e refl))
      | false ↦ λ e. refl
    ] refl

-- what a transaction writes in the examples depends on its read ranges
pub effect_kept : (t : Txn) (i j : ℕ) → IsEffect t (effect_of (Some t) i j)
effect_kept t i j = record {
  reads = λ one other same key bytes written.
      rw written (ap (λ read. Some (i ∷ j ∷ read)) (first_read_same t.reads one other same));
}

-- a committed transaction is at its place in the list
pub found_at : (ps : List Processed) (i j : ℕ) (p : Processed) (t : Txn) → IsCommitted ps i j p t
    → txn_at ps i j ≡ Some t
found_at ps i j p t c = rw c.batch c.txn

-- so the plans of the examples are functions of the read ranges, whatever the list
pub are_effects : (ps : List Processed) (i j : ℕ) (p : Processed) (t : Txn) → IsCommitted ps i j p t
    → IsEffect t (effects_of ps i j) × (plans_of ps i j ≡ plan_of t (effects_of ps i j))
are_effects ps i j p t c =
    subst (λ o. IsEffect t (effect_of o i j) × (plan_of_some o (effect_of o i j) ≡ plan_of t (effect_of o i j)))
    (sym (found_at ps i j p t c)) (effect_kept t i j, refl)

-- and keep to the write ranges
pub effects_keep : (ps : List Processed) → AllKeepToWrites ps (plans_of ps)
effects_keep ps i j p t c = effect_keeps t (effects_of ps i j) (plans_of ps i j) (are_effects ps i j p t c).1

-- and read only what is declared
pub effects_declared : (ps : List Processed) → AllReadOnlyDeclared first_store (plans_of ps) ps
effects_declared ps i j p t c =
    let are = are_effects ps i j p t c in
    effect_declared t (effects_of ps i j) (plans_of ps i j) are.0 are.1 _ _
