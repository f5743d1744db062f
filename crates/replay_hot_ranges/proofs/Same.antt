-- The conflicts by all batches are the same by the batches that a history keeps.
use Rattle.std.proofs.Common.{◌≡◌, ℕ, zero, suc, ◌+◌, List, [], ◌∷◌, ◌++◌, Option, Some, slice_get, refl, sym, ap, ◌∙◌, arith}
use Rattle.std.specs.Prelude.{ℤ, ◌≤ℤ◌, flat_map}
use Rattle.keys.specs.declared.range.Range.{Range}
use Rattle.keyspace.specs.declared.txn.Txn.{Txn}
use Rattle.keyspace.specs.declared.batch.Batch.{Batch}
use Rattle.keyspace.specs.declared.reply.Entry.{Entry}
use Rattle.keyspace.specs.declared.reply.Verdict.{Verdict}
use Rattle.keyspace.specs.declared.reply.Verdict.TheVariants.{Conflict, TooOld, Committed}
use Rattle.keyspace.specs.Processed.{Processed}
use Rattle.keyspace.specs.Chain.{IsChain}
use Rattle.keyspace.specs.Judged.{edge}
use Rattle.explanations.specs.Written.{all_written, newest_write}
use Rattle.explanations.specs.Explains.{explaining_writes, explaining_range, explaining_txn, newest_of}
use Rattle.explanations.specs.History.{HistoryState, Keeps}
use Rattle.explanations.proofs.callers.Following.{same_explaining}
use Rattle.replay_hot_ranges.specs.Conflicts.{InConflict, conflict_of, conflicts_of, in_conflict, rejected_by, rejected_from}

-- what is the same of each element
flat_map_same : {X Y : Type 0} (f g : X → List Y) (xs : List X) → ((i : ℕ) (x : X) → slice_get xs i ≡ Some x → f x ≡ g x)
    → flat_map f xs ≡ flat_map g xs
flat_map_same f g [] h = refl
flat_map_same {X} {Y} f g (x ∷ xs) h =
    ap (λ (ys : List Y). ys ++ flat_map f xs) (h zero x refl)
    ∙ ap (λ (ys : List Y). g x ++ ys) (flat_map_same f g xs (λ i y at. h (suc i) y at))

rejected_same : (ps qs : List Processed) (b : Batch) (first : ℕ) (ts : List Txn) (es : List Entry)
    → ((j k : ℕ) (t : Txn) (e : Entry) → j ≡ first + k → slice_get ts k ≡ Some t → slice_get es k ≡ Some e
    → rejected_by e.verdict (conflicts_of ps b j t) ≡ rejected_by e.verdict (conflicts_of qs b j t))
    → rejected_from ps b first ts es ≡ rejected_from qs b first ts es
rejected_same ps qs b first [] es h = refl
rejected_same ps qs b first (t ∷ ts) [] h = refl
rejected_same ps qs b first (t ∷ ts) (e ∷ es) h =
    ap (λ (xs : List (List InConflict)). xs ++ rejected_from ps b (first + 1) ts es) (h first zero t e (omega arith) refl refl)
    ∙ ap (λ (xs : List (List InConflict)). rejected_by e.verdict (conflicts_of qs b first t) ++ xs)
    (rejected_same ps qs b (first + 1) ts es (λ j k u f same at_u at_f. h j (suc k) u f (omega (arith, same)) at_u at_f))

module _ (window : ℤ) (ps : List Processed) (p : Processed) (h : HistoryState) (chain : IsChain window (ps ++ p ∷ []))
    (keeps : Keeps (ps ++ p ∷ []) h) (newest_is : newest_of h.kept ≡ Some p.batch) (low : h.edge ≤ℤ edge window p.batch) where
  at_read : (qs : List Processed) (j i : ℕ) (t : Txn) (range : Range) → slice_get p.batch.txns j ≡ Some t → slice_get t.reads i ≡ Some range
      → explaining_writes qs p.batch j i ≡ explaining_range (all_written qs) p.batch.version j t.snapshot (Some range)
  at_read qs j i t range at read =
      ap (λ (o : Option Txn). explaining_txn (all_written qs) p.batch.version j o i) at
      ∙ ap (explaining_range (all_written qs) p.batch.version j t.snapshot) read

  conflict_same : (j : ℕ) (t : Txn) (e : Entry) → slice_get p.batch.txns j ≡ Some t → slice_get p.reply.entries j ≡ Some e
      → e.verdict ≡ Conflict → (i : ℕ) (range : Range) → slice_get t.reads i ≡ Some range
      → conflict_of (ps ++ p ∷ []) p.batch j t range ≡ conflict_of h.kept p.batch j t range
  conflict_same j t e at_t at_e is i range read =
      ap (λ ws. in_conflict range (newest_write ws))
      (sym (at_read (ps ++ p ∷ []) j i t range at_t read)
      ∙ same_explaining window ps p h chain keeps newest_is low j t e at_t at_e is i range read
      ∙ at_read h.kept j i t range at_t read)

  txn_same : (j : ℕ) (t : Txn) (e : Entry) → slice_get p.batch.txns j ≡ Some t → slice_get p.reply.entries j ≡ Some e
      → rejected_by e.verdict (conflicts_of (ps ++ p ∷ []) p.batch j t) ≡ rejected_by e.verdict (conflicts_of h.kept p.batch j t)
  txn_same j t e at_t at_e = go e.verdict refl
    where
      go : (verdict : Verdict) → e.verdict ≡ verdict
          → rejected_by verdict (conflicts_of (ps ++ p ∷ []) p.batch j t) ≡ rejected_by verdict (conflicts_of h.kept p.batch j t)
      go Committed is = refl
      go TooOld is = refl
      go Conflict is =
          ap (λ (cs : List InConflict). cs ∷ [])
          (flat_map_same (conflict_of (ps ++ p ∷ []) p.batch j t) (conflict_of h.kept p.batch j t) t.reads
          (λ i range read. conflict_same j t e at_t at_e is i range read))

  pub same_rejected : rejected_from (ps ++ p ∷ []) p.batch 0 p.batch.txns p.reply.entries
      ≡ rejected_from h.kept p.batch 0 p.batch.txns p.reply.entries
  same_rejected =
      rejected_same (ps ++ p ∷ []) h.kept p.batch 0 p.batch.txns p.reply.entries
      (λ j k t e is at_t at_e.
      let same : k ≡ j = omega (arith, is) in
      txn_same j t e (ap (slice_get p.batch.txns) (sym same) ∙ at_t) (ap (slice_get p.reply.entries) (sym same) ∙ at_e))
