-- In a chain, the reads of committed transactions are current.
use Rattle.std.proofs.Common.{
  ◌≡◌,
  ℕ,
  suc,
  zero,
  true,
  false,
  not,
  List,
  [],
  ◌∷◌,
  ◌++◌,
  take,
  drop,
  ℤ,
  ◌<ℤ◌,
  int_le,
  refl,
  sym,
  ap,
  subst,
  arith,
  inl,
  inr,
}
use Rattle.std.specs.Prelude.{Option, Some, None, slice_get, IsSomeAnd, Any, Contains}
use Rattle.std.proofs.lemmas.Int.{ints}
use Rattle.std.proofs.lemmas.List.Folds.{Any-from_list_any}
use Rattle.std.proofs.lemmas.Option.{slice_get_read}
use Rattle.keys.specs.declared.range.Range.{Range}
use Rattle.keyspace.specs.declared.txn.Txn.{Txn}
use Rattle.keyspace.specs.declared.reply.Verdict.TheVariants.{Committed}
use Rattle.keyspace.specs.declared.reply.Entry.{Entry}
use Rattle.keys.specs.Key.{IsBytes, is_before}
use Rattle.keys.specs.Range.{Holds, Meets}
use Rattle.keyspace.specs.Processed.{Processed}
use Rattle.keyspace.specs.Writes.{Write, writes, earlier}
use Rattle.keyspace.specs.Judged.{IsInConflict, HasVerdict, edge}
use Rattle.keyspace.specs.Chain.{IsChain}
use Rattle.keys.proofs.callers.Booleans.{and_left, and_right, false_unless}
use Rattle.serial.specs.Commits.{IsCommitted, holds, Current}
use Rattle.serial.specs.Stores.{in_ranges}
use Rattle.serial.proofs.Holding.{is_above, written_above, current_from_tests}

-- a list is the elements before one, that one, and those after it
pub split_at : {X : Type 0} (xs : List X) (i : ℕ) (x : X) → slice_get xs i ≡ Some x
    → xs ≡ take i xs ++ x ∷ drop (suc i) xs
split_at [] i x h = cc
split_at (y ∷ xs) zero x h = let e : y ≡ x = cc in ap (λ z. z ∷ xs) e
split_at (y ∷ xs) (suc i) x h = ap (λ ys. y ∷ ys) (split_at xs i x h)

-- a property of the value of an option that has one
pub some_at : {X : Type 0} (P : X → Type 0) (o : Option X) (x : X) → o ≡ Some x → P x → IsSomeAnd o P
some_at P o x e h = subst (λ (o : Option _). IsSomeAnd o P) (sym e) h

-- an option of whose value something holds has a value
pub the_value : {X : Type 0} (P : X → Type 0) (o : Option X) → IsSomeAnd o P → (x : X) × (o ≡ Some x) × P x
the_value P None h = elim h [ ]
the_value P (Some x) h = (x, refl, h)

-- `holds` computes `Holds`
pub holds_from_test : (range : Range) (key : List ℕ) → holds range key ≡ true → Holds range key
holds_from_test range key h = (
  and_left (not (is_before key range.begin)) (is_before key range.end) h,
  and_right (not (is_before key range.begin)) (is_before key range.end) h,
)

-- an element of a list is at an index
pub at_index : {X : Type 0} (xs : List X) (x : X) → Contains xs x → (i : ℕ) × (slice_get xs i ≡ Some x)
at_index xs x c = (c.0, slice_get_read xs _ c.0 x refl c.1 (sym c.2))

-- a version that isn't at or below the snapshot is above it
pub above_from_test : (version snapshot : ℤ) → not (int_le version snapshot) ≡ true → snapshot <ℤ version
above_from_test version snapshot h = grind (arith, ints)

module _ (ws : List Write) (written : List Range) (t : Txn) (range : Range) (key : List ℕ)
    (free : IsInConflict ws written t → ⊥) (read : Contains t.reads range) (bytes : IsBytes key)
    (held : holds range key ≡ true) where
  -- without a conflict, no write that holds a key of a read range is above the snapshot
  pub low_unless_conflict : written_above t.snapshot key ws ≡ false
  low_unless_conflict =
      false_unless (written_above t.snapshot key ws) (λ h.
      let a = Any-from_list_any (is_above t.snapshot key) ws h in
      let w = a.1 in
      let holds_key = and_left (holds w.range key) (not (int_le w.version t.snapshot)) a.4 in
      let is_high = and_right (holds w.range key) (not (int_le w.version t.snapshot)) a.4 in
      let meets : Meets range w.range = (
        key,
        bytes,
        holds_from_test range key held,
        holds_from_test w.range key holds_key,
      ) in
      let above = above_from_test w.version t.snapshot is_high in
      let place = at_index t.reads range read in
      free (
        place.0,
        inl (some_at (λ range. Any (λ w. Meets range w.range × (t.snapshot <ℤ w.version)) ws)
            (slice_get t.reads place.0) range place.1 (a.0, w, a.2, a.3, (meets, above))),
      ))

  -- and no range that was written before in the batch holds it
  pub none_unless_conflict : in_ranges written key ≡ false
  none_unless_conflict =
      false_unless (in_ranges written key) (λ h.
      let a = Any-from_list_any (λ other. holds other key) written h in
      let other = a.1 in
      let meets : Meets range other = (key, bytes, holds_from_test range key held, holds_from_test other key a.4) in
      let place = at_index t.reads range read in
      free (
        place.0,
        inr (some_at (λ range. Any (Meets range) written)
            (slice_get t.reads place.0) range place.1 (a.0, other, a.2, a.3, meets)),
      ))

-- a committed transaction of a chain isn't in conflict
no_conflict : (window : ℤ) (ps : List Processed) → IsChain window ps
    → (i j : ℕ) (p : Processed) (t : Txn) → IsCommitted ps i j p t
    → IsInConflict (writes (take i ps)) (earlier p.batch p.reply j) t → ⊥
no_conflict window ps chain i j p t c conflict =
    let judged = (chain (take i ps) p (drop (suc i) ps) (split_at ps i p c.batch)).judged in
    let entry = the_value (λ (e : Entry). e.verdict ≡ Committed) (slice_get p.reply.entries j) c.verdict in
    let right = judged.verdicts j t entry.0 c.txn entry.1 in
    let committed = subst (HasVerdict (edge window p.batch) (writes (take i ps)) (earlier p.batch p.reply j) t)
    entry.2 right in
    committed.1 conflict

-- the reads of the committed transactions of a chain are current
pub chain_current : (window : ℤ) (ps : List Processed) → IsChain window ps → Current ps
chain_current window ps chain i j p t c range read key bytes held =
    let ws = writes (take i ps) in
    let written = earlier p.batch p.reply j in
    let free = no_conflict window ps chain i j p t c in
    current_from_tests t.snapshot p.batch.version key ws written
    (low_unless_conflict ws written t range key free read bytes held)
    (none_unless_conflict ws written t range key free read bytes held)
